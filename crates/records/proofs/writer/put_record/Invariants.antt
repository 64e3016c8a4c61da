-- What a loop over the fields keeps: what is written with the fields that are left and the CRLF is the whole, and nothing behind it is touched.
use Rattle.std.proofs.Common.{◌≡◌, ◌+◌, [], ◌∷◌, ◌++◌, length, take, drop}
use Rattle.std.specs.List.{flat_map}
use Rattle.records.specs.Writing.{bytes_of, comma_spelled, whole}
use Rattle.records.proofs.writer.put_record.Given as goal

abbrev pub invariant-loop-field : goal.invariant-loop-field
invariant-loop-field l =
    (l.next + (length (flat_map comma_spelled (bytes_of (drop l.field-index l.rest))) + 2) ≡ length (whole (l.first ∷ bytes_of l.rest)))
    × (take l.next l.out ++ (flat_map comma_spelled (bytes_of (drop l.field-index l.rest)) ++ (13 ∷ (10 ∷ []))) ≡ whole (l.first ∷ bytes_of l.rest))
    × (drop l.next l.out ≡ drop l.next l.fn.out) × (length l.out ≡ length l.fn.out)
