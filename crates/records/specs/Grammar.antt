-- How a record is written (RFC 4180): the grammar, its limits, and where the first fault of a text lies.
use Rattle.std.specs.Prelude.{◌≡◌, ℕ, ◌+◌, ◌<◌, ◌≤◌, min, Bool, true, cond, not, ◌&&◌, ◌||◌, ◌⊎◌, List, [], ◌∷◌, ◌++◌, length, take, ◌==◌, nat_le}
use Rattle.std.specs.List.{list_all, flat_map}
use Rattle.records.specs.declared.fault.Fault.{Fault}
use Rattle.records.specs.declared.fault.Fault.TheVariants.{BadText, TooLong}

-- a byte that may stand in a field outside quotes: 0x20 to 0x7E, but no comma and no double quote
abbrev pub plain_byte : ℕ → Bool
plain_byte b = nat_le 32 b && (nat_le b 126 && (not (b == 44) && not (b == 34)))

-- a byte that a field may hold: 0x20 to 0x7E, CR or LF
abbrev pub text_byte : ℕ → Bool
text_byte b = (nat_le 32 b && nat_le b 126) || (b == 13 || b == 10)

-- a field's bytes as they stand between quotes: a double quote is written twice
abbrev pub doubled : List ℕ → List ℕ
doubled field = flat_map (λ b. cond (b == 34) (34 ∷ (34 ∷ [])) (b ∷ [])) field

-- a field as it stands between quotes
abbrev pub in_quotes : List ℕ → List ℕ
in_quotes field = 34 ∷ (doubled field ++ (34 ∷ []))

-- the ways to write a field
pub data Field : List ℕ → List ℕ → Type 0 where
  plain : {field : List ℕ} → list_all plain_byte field ≡ true → Field field field
  quoted : {field : List ℕ} → list_all text_byte field ≡ true → Field field (in_quotes field)

-- the ways to write a record's fields, with a comma between two
pub data Fields : List (List ℕ) → List ℕ → Type 0 where
  one : {field written : List ℕ} → Field field written → Fields (field ∷ []) written
  more : {field written : List ℕ} {fields : List (List ℕ)} {rest : List ℕ} → Field field written → Fields fields rest → Fields (field ∷ fields) (written ++ (44 ∷ rest))

-- the limits of a record: 40 fields and 1,024 bytes, the CRLF after it not counted
pub record Within (fields : List (List ℕ)) (written : List ℕ) : Type 0 where
  pub few : length fields ≤ 40
  pub short : length written ≤ 1024

-- a text begins with a record of these fields, and `rest` comes after it; the CRLF may be left out at the text's end
pub data Record (text : List ℕ) (fields : List (List ℕ)) (rest : List ℕ) : Type 0 where
  ended : (written : List ℕ) → Fields fields written → Within fields written → text ≡ written ++ (13 ∷ (10 ∷ rest)) → Record text fields rest
  unended : Fields fields text → Within fields text → 0 < length text → rest ≡ [] → Record text fields rest

-- some record, of any size, begins with these bytes
pub record Begins (bytes : List ℕ) : Type 0 where
  pub fields : List (List ℕ)
  pub written : List ℕ
  pub to_come : List ℕ
  pub spelled : Fields fields written
  pub joined : bytes ++ to_come ≡ written ++ (13 ∷ (10 ∷ []))

-- so far within the limits: some record of at most 40 fields begins with these bytes, and at most 1,024 of them are its own
pub record Fits (bytes : List ℕ) : Type 0 where
  pub begins : Begins bytes
  pub few : length begins.fields ≤ 40
  pub short : min (length bytes) (length begins.written) ≤ 1024

-- what is wrong at a place: bad text is a byte with which no record goes on, or the end of the text; too long is a byte past a limit
abbrev pub Breaks : List ℕ → ℕ → Fault → Type 0
Breaks text place BadText = (place ≡ length text) ⊎ (Begins (take (place + 1) text) → ⊥)
Breaks text place TooLong = Begins (take (place + 1) text) × (Fits (take (place + 1) text) → ⊥)

-- the first fault of a text that is not empty and begins with no record: all is well before the place, and not there
pub record FirstFault (text : List ℕ) (place : ℕ) (fault : Fault) : Type 0 where
  pub some : 0 < length text
  pub no_record : (fields : List (List ℕ)) (rest : List ℕ) → Record text fields rest → ⊥
  pub before : Fits (take place text)
  pub here : Breaks text place fault

-- a text begins with at most one record
abbrev pub OneRecord : Type 0
OneRecord = (text : List ℕ) (fields fields' : List (List ℕ)) (rest rest' : List ℕ) → Record text fields rest → Record text fields' rest' → (fields ≡ fields') × (rest ≡ rest')

-- a text has at most one first fault
abbrev pub OneFault : Type 0
OneFault = (text : List ℕ) (place place' : ℕ) (fault fault' : Fault) → FirstFault text place fault → FirstFault text place' fault' → (place ≡ place') × (fault ≡ fault')
