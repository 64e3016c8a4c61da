-- How far the writer counts the bytes of a line, and a buffer that bytes are written into, from a place on.
use Rattle.std.specs.Prelude.{◌≡◌, ℕ, cond, ◌+◌, List, ◌++◌, length, take, drop, Some, None, Option, nat_le}
use Rattle.std.specs.List.{list_all}
use Rattle.records.specs.Grammar.{text_byte}
use Rattle.records.specs.Writing.{all_text, line, spelled}

-- a length as far as the writer counts it: past the limit of 1,024 bytes it is one more than that
abbrev pub counted : ℕ → ℕ
counted len = cond (nat_le len 1024) len 1025

-- the bytes that a field takes as it is written, as far as they are counted, if it is text
abbrev pub measured : List ℕ → Option ℕ
measured field = cond (list_all text_byte field) (Some (counted (length (spelled field)))) None

-- the bytes that a record's line takes, as far as they are counted, if each field is text
abbrev pub line_measured : List (List ℕ) → Option ℕ
line_measured fields = cond (all_text fields) (Some (counted (length (line fields)))) None

-- bytes were written from a place on: `next` is the place after them, what stands before the place and from `next` on is as it was, and the buffer is as long
abbrev pub Put : List ℕ → ℕ → List ℕ → ℕ → List ℕ → Type 0
Put before place bytes next after =
    (next ≡ place + length bytes) × (take next after ≡ take place before ++ bytes) × (drop next after ≡ drop next before) × (length after ≡ length before)
