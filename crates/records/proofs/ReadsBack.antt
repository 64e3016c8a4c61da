-- Every record that the writer may write reads back equal, whatever follows it.
use Rattle.std.proofs.Common.{◌≡◌, ℕ, ◌<◌, ◌≤◌, true, List, [], ◌∷◌, ◌++◌, length, drop, sym, ap, ◌∙◌, arith}
use Rattle.std.proofs.lemmas.List.{append_assoc, append-nil, take-append-drop}
use Rattle.std.proofs.lemmas.Bool.{cond_both, and_parts}
use Rattle.std.specs.List.{list_all}
use Rattle.records.specs.Grammar.{plain_byte, text_byte, in_quotes, Field, plain, quoted, Fields, one, more, Record, ended}
use Rattle.records.specs.Buffers.{Put}
use Rattle.records.specs.Writing.{spelled, line, whole, all_text, Written}
use Rattle.records.proofs.Reasons.{writable}

pub spelled_is_field : (field : List ℕ) → list_all text_byte field ≡ true → Field field (spelled field)
spelled_is_field field text = cond_both (list_all plain_byte field) field (in_quotes field) (Field field) (λ bare. plain bare) (λ _. quoted text)

pub line_is_fields : (field : List ℕ) (fields : List (List ℕ)) → all_text (field ∷ fields) ≡ true → Fields (field ∷ fields) (line (field ∷ fields))
line_is_fields field [] text =
    rw append-nil (one (spelled_is_field field (and_parts _ _ text).0))
line_is_fields field (next ∷ fields) text =
    let parts = and_parts (list_all text_byte field) (all_text (next ∷ fields)) text in
    more (spelled_is_field field parts.0) (line_is_fields next fields parts.1)

pub whole_is_record : (field : List ℕ) (fields : List (List ℕ)) → all_text (field ∷ fields) ≡ true → length (field ∷ fields) ≤ 40 → length (line (field ∷ fields)) ≤ 1024 → (rest : List ℕ) → Record (whole (field ∷ fields) ++ rest) (field ∷ fields) rest
whole_is_record field fields text few short rest =
    ended (line (field ∷ fields)) (line_is_fields field fields text) (record { few = few; short = short }) (append_assoc (line (field ∷ fields)) (13 ∷ (10 ∷ [])) rest)

-- a record that nothing speaks against and that was put at the start of the buffer is written
pub written_from_put : (fields : List (List ℕ)) (before : List ℕ) (n : ℕ) (after : List ℕ) → 0 < length fields → all_text fields ≡ true → length fields ≤ 40 → length (line fields) ≤ 1024 → length (whole fields) ≤ length before → Put before 0 (whole fields) n after → Written fields before n after
written_from_put [] before n after some text few short fits put = absurd (omega arith)
written_from_put (field ∷ fields) before n after some text few short fits put =
    let all = whole (field ∷ fields) in
    let buffer : after ≡ all ++ drop n before = sym (take-append-drop n after) ∙ ap (λ l. l ++ drop n after) put.1 ∙ ap (λ l. all ++ l) put.2 in
    record {
      lawful = writable (field ∷ fields) (length before) some text few short fits;
      count = omega (arith, put.0);
      buffer = buffer;
      reads_back = λ rest. rw put.1 (whole_is_record field fields text few short rest);
    }
