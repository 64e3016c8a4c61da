-- What a loop over a field keeps: what is counted and what is left make the whole.
use Rattle.std.proofs.Common.{◌≡◌, ◌+◌, ◌*◌, ◌≤◌, length, drop}
use Rattle.records.specs.Grammar.{doubled, in_quotes}
use Rattle.records.proofs.writer.quoted_len.Given as goal

abbrev pub invariant-loop-b : goal.invariant-loop-b
invariant-loop-b l = (l.len ≤ 2 + 2 * l.b-index) × (l.len + length (doubled (drop l.b-index l.field)) ≡ length (in_quotes l.field))
