-- At most fifteen digits are worth no more than 64 bits hold.
use Rattle.std.proofs.Common.{rules}
use Rattle.records.proofs.Numbers.{fifteen_places}
use Rattle.records.proofs.numeral.value.Goals as goal

pub overflow_mul-worth : goal.overflow_mul-worth
overflow_mul-worth c = search (rules, fifteen_places c.loop-b.worth c.loop-b.b-index)

pub overflow_add-worth : goal.overflow_add-worth
overflow_add-worth c = search (rules, fifteen_places c.loop-b.worth c.loop-b.b-index)
