-- What a loop over a field keeps: what is written with what is left and the closing quote is the whole, and nothing behind it is touched.
use Rattle.std.proofs.Common.{◌≡◌, ◌+◌, [], ◌∷◌, ◌++◌, length, take, drop}
use Rattle.records.specs.Grammar.{doubled, in_quotes}
use Rattle.records.proofs.writer.put_quoted.Given as goal

abbrev pub invariant-loop-b : goal.invariant-loop-b
invariant-loop-b l =
    (l.next + (length (doubled (drop l.b-index l.field)) + 1) ≡ l.place + length (in_quotes l.field))
    × (take l.next l.out ++ (doubled (drop l.b-index l.field) ++ (34 ∷ [])) ≡ take l.place l.fn.out ++ in_quotes l.field)
    × (drop l.next l.out ≡ drop l.next l.fn.out) × (length l.out ≡ length l.fn.out)
