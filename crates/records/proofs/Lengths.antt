-- How many bytes the writer puts down.
use Rattle.std.proofs.Common.{◌≡◌, ℕ, ◌+◌, true, List, [], ◌∷◌, length, ap}
use Rattle.std.proofs.lemmas.List.{length-append}
use Rattle.std.proofs.lemmas.Bool.{cond-true}
use Rattle.std.specs.List.{list_all}
use Rattle.records.specs.Grammar.{plain_byte, in_quotes}
use Rattle.records.specs.Writing.{spelled, line, whole}

pub length_spelled_plain : (field : List ℕ) → list_all plain_byte field ≡ true → length (spelled field) ≡ length field
length_spelled_plain field plain = ap length (cond-true (list_all plain_byte field) field (in_quotes field) plain)

pub length_whole : (fields : List (List ℕ)) → length (whole fields) ≡ length (line fields) + 2
length_whole fields = length-append (line fields) (13 ∷ (10 ∷ []))
