-- How many bytes the writer counts for fields and lines.
use Rattle.std.proofs.Common.{◌≡◌, ◌∙◌, ℕ, ◌+◌, ◌≤◌, true, cond, ◌&&◌, eqb, List, [], ◌∷◌, ◌++◌, length, Some, None, Option, refl, ap, arith}
use Rattle.std.proofs.lemmas.List.{length-append}
use Rattle.std.proofs.lemmas.Bool.{cond_both, and_parts}
use Rattle.std.proofs.lemmas.Bool.Decides.{nat_tests}
use Rattle.std.specs.List.{list_all, flat_map}
use Rattle.records.specs.Grammar.{plain_byte, text_byte, doubled, in_quotes}
use Rattle.records.specs.Buffers.{counted, line_measured}
use Rattle.records.specs.Writing.{all_text, comma_spelled, line}

-- what is counted of a line that has `len` bytes so far, and goes on with these fields
abbrev pub measured_from : ℕ → List (List ℕ) → Option ℕ
measured_from len fields = cond (all_text fields) (Some (counted (len + length (flat_map comma_spelled fields)))) None

plain_byte_is_text : (b : ℕ) → plain_byte b ≡ true → text_byte b ≡ true
plain_byte_is_text b plain = grind (arith, nat_tests)

-- a plain field is text
pub plain_is_text : (field : List ℕ) → list_all plain_byte field ≡ true → list_all text_byte field ≡ true
plain_is_text [] plain = refl
plain_is_text (b ∷ field) plain =
    let parts = and_parts (plain_byte b) (list_all plain_byte field) plain in
    ap (λ t. t && list_all text_byte field) (plain_byte_is_text b parts.0) ∙ plain_is_text field parts.1

pub length_le_doubled : (field : List ℕ) → length field ≤ length (doubled field)
length_le_doubled [] = omega arith
length_le_doubled (b ∷ field) =
    let more = length_le_doubled field in
    cond_both (eqb b 34) (34 ∷ (34 ∷ [])) (b ∷ []) (λ l. length (b ∷ field) ≤ length (l ++ doubled field)) (λ _. omega arith) (λ _. omega arith)

pub length_in_quotes : (field : List ℕ) → length (in_quotes field) ≡ length (doubled field) + 2
length_in_quotes field = let end = length-append (doubled field) (34 ∷ []) in omega arith

-- a line that was counted to no more than the limit is text, and was counted whole
pub measured_within : (fields : List (List ℕ)) (len : ℕ) → line_measured fields ≡ Some len → len ≤ 1024 → (all_text fields ≡ true) × (length (line fields) ≡ len)
measured_within fields len measures within = (grind (arith, nat_tests), grind (arith, nat_tests))
