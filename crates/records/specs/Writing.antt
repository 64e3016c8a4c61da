-- How the writer writes a record: what it puts down for each field, what it refuses, and that what it wrote reads back equal.
use Rattle.std.specs.Prelude.{◌≡◌, ℕ, Bool, cond, not, ◌||◌, List, [], ◌∷◌, ◌++◌, map, length, take, drop, Some, None, Ok, Err, Option, Result, ◌==◌, nat_lt}
use Rattle.std.specs.Borrow.{Bor}
use Rattle.std.specs.List.{list_all, join_by}
use Rattle.records.specs.Grammar.{plain_byte, text_byte, in_quotes, Record}
use Rattle.records.specs.declared.writer.Unwritable.{Unwritable}
use Rattle.records.specs.declared.writer.Unwritable.TheVariants.{NoField, NotText, TooLong, NoRoom}

-- a field as it is written: in quotes only where a byte of it may not stand outside them
abbrev pub spelled : List ℕ → List ℕ
spelled field = cond (list_all plain_byte field) field (in_quotes field)

-- a field as it is written after another one
abbrev pub comma_spelled : List ℕ → List ℕ
comma_spelled field = 44 ∷ spelled field

-- a record's fields as they are written, with a comma between two
abbrev pub line : List (List ℕ) → List ℕ
line fields = join_by spelled (44 ∷ []) fields

-- a record as it is written, with its CRLF
abbrev pub whole : List (List ℕ) → List ℕ
whole fields = line fields ++ (13 ∷ (10 ∷ []))

-- whether every field is text
abbrev pub all_text : List (List ℕ) → Bool
all_text fields = list_all (list_all text_byte) fields

-- whether a record passes a limit: 40 fields, or 1,024 bytes, its CRLF not counted
abbrev pub too_long : List (List ℕ) → Bool
too_long fields = nat_lt 40 (length fields) || nat_lt 1024 (length (line fields))

-- why a record of these fields cannot be written into so much room: the first reason, or none
abbrev pub unwritable : List (List ℕ) → ℕ → Option Unwritable
unwritable fields room =
    cond (length fields == 0) (Some NoField)
    (cond (not (all_text fields)) (Some NotText)
    (cond (too_long fields) (Some TooLong)
    (cond (nat_lt room (length (whole fields))) (Some NoRoom) None)))

-- the bytes of each field that a caller passes
abbrev pub bytes_of : List (Bor (List ℕ)) → List (List ℕ)
bytes_of = map (λ field. field.now)

-- a record was written: nothing forbade it, it is the first `n` bytes of the buffer and the others are as they were, and whatever follows it, it reads back equal
pub record Written (fields : List (List ℕ)) (before : List ℕ) (n : ℕ) (after : List ℕ) : Type 0 where
  pub lawful : unwritable fields (length before) ≡ None
  pub count : n ≡ length (whole fields)
  pub buffer : after ≡ whole fields ++ drop n before
  pub reads_back : (rest : List ℕ) → Record (take n after ++ rest) fields rest

-- a record was refused: for the first reason, and the buffer is as it was
pub record Refused (fields : List (List ℕ)) (before : List ℕ) (why : Unwritable) (after : List ℕ) : Type 0 where
  pub reason : unwritable fields (length before) ≡ Some why
  pub kept : after ≡ before

-- what the writer answers, and what it leaves in the buffer
abbrev pub Wrote : List (List ℕ) → List ℕ → Result ℕ Unwritable → List ℕ → Type 0
Wrote fields before (Ok n) after = Written fields before n after
Wrote fields before (Err why) after = Refused fields before why after
