-- What was read is worth what the loop has, and what is left decides the answer.
use Rattle.std.proofs.Common.{◌≡◌, ◌^◌, ◌<◌, drop}
use Rattle.records.proofs.Numbers.{read_after}
use Rattle.records.proofs.numeral.value.Given as goal

abbrev pub invariant-loop-b : goal.invariant-loop-b
invariant-loop-b l = (read_after l.worth (drop l.b-index l.field) ≡ read_after 0 l.field) × (l.worth < 10 ^ l.b-index)
