-- What a reader has taken in of a record.
use Rattle.std.specs.Prelude.{◌≡◌, ℕ, ◌+◌, true, List, [], ◌∷◌, ◌++◌, length}
use Rattle.std.specs.List.{list_all}
use Rattle.records.specs.Grammar.{plain_byte, text_byte, doubled, in_quotes, Field}
use Rattle.records.specs.declared.action.Mode.{Mode}
use Rattle.records.specs.declared.action.Mode.TheVariants.{Plain, Quoted, Closing, Returned}

-- the ways to write complete fields, each with the comma after it
pub data Separated : List (List ℕ) → List ℕ → Type 0 where
  start : Separated [] []
  next : {fields : List (List ℕ)} {before field written : List ℕ} → Separated fields before → Field field written → Separated (fields ++ (field ∷ [])) (before ++ (written ++ (44 ∷ [])))

-- the ways to write the last field as far as it goes
abbrev pub Part : Mode → List ℕ → List ℕ → Type 0
Part Plain field part = (list_all plain_byte field ≡ true) × (part ≡ field)
Part Quoted field part = (list_all text_byte field ≡ true) × (part ≡ 34 ∷ doubled field)
Part Closing field part = (list_all text_byte field ≡ true) × (part ≡ in_quotes field)
Part Returned field part = (written : List ℕ) × Field field written × (part ≡ written ++ (13 ∷ []))

-- how many bytes of the CRLF that ends the record are taken in
abbrev pub of_line_end : Mode → ℕ
of_line_end Plain = 0
of_line_end Quoted = 0
of_line_end Closing = 0
of_line_end Returned = 1

-- these bytes are a record begun, with its complete fields, the last field as far as it goes, and as many bytes of its own as are taken
pub record UnderWay (mode : Mode) (complete : List (List ℕ)) (current : List ℕ) (taken : ℕ) (bytes : List ℕ) : Type 0 where
  pub before : List ℕ
  pub part : List ℕ
  pub separated : Separated complete before
  pub partly : Part mode current part
  pub joined : bytes ≡ before ++ part
  pub counted : length bytes ≡ taken + of_line_end mode
