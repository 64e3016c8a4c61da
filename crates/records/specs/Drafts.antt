-- What is read of a record, and what a byte, a part of a text and the text's end make of it.
use Rattle.std.specs.Prelude.{◌≡◌, ℕ, ◌+◌, ◌<◌, ◌≤◌, ◌⊎◌, List, [], ◌∷◌, ◌++◌, length, drop, Ok, Err, Result, ⊤}
use Rattle.arrayvec.specs.ArrayVec.{array_vec_len}
use Rattle.records.specs.FieldLists.{complete, current, fields_of}
use Rattle.records.specs.Grammar.{Record, FirstFault}
use Rattle.records.specs.Reading.{UnderWay}
use Rattle.records.specs.declared.action.Mode.{Mode}
use Rattle.records.specs.declared.action.Mode.TheVariants.{Plain}
use Rattle.records.specs.declared.draft.Draft.{Draft}
use Rattle.records.specs.declared.fault.Fault.{Fault}
use Rattle.records.specs.declared.fault.Fault.TheVariants.{TooLong}
use Rattle.records.specs.declared.reader.Progress.{Progress}
use Rattle.records.specs.declared.reader.Event.{Event}
use Rattle.records.specs.declared.reader.Event.TheVariants.{More, Record as Ended}

-- the bytes that are taken in of a record
abbrev pub Holds : Draft → List ℕ → Type 0
Holds d bytes = UnderWay d.mode (complete d.fields) (current d.fields) d.taken bytes

-- where a record stands
pub record Stands (d : Draft) (m : Mode) (fields : List (List ℕ)) (field : List ℕ) (n : ℕ) : Type 0 where
  pub mode : d.mode ≡ m
  pub before : complete d.fields ≡ fields
  pub last : current d.fields ≡ field
  pub taken : d.taken ≡ n

-- one byte more is counted and the rest stays, or the record has its 1,024 bytes already
abbrev pub Room : Draft → Result ⊤ Fault → Draft → Type 0
Room e (Ok _) f = (f.fields ≡ e.fields) × (f.mode ≡ e.mode) × (f.taken ≡ e.taken + 1)
Room e (Err x) f = (x ≡ TooLong) × (1024 ≤ e.taken)

-- a byte that counts: the record goes on so, or it has its 1,024 bytes already
abbrev pub Counted : Result Event Fault → Draft → Draft → Mode → List (List ℕ) → List ℕ → Type 0
Counted (Ok More) e f mode fields field = Stands f mode fields field (e.taken + 1) × (e.taken < 1024)
Counted (Ok Ended) e f mode fields field = ⊥
Counted (Err x) e f mode fields field = (x ≡ TooLong) × (1024 ≤ e.taken)

-- a comma: a new field is begun, or the record has its 1,024 bytes or its 40 fields already
abbrev pub CountedField : Result Event Fault → Draft → Draft → Type 0
CountedField (Ok More) e f = Stands f Plain (complete e.fields ++ (current e.fields ∷ [])) [] (e.taken + 1) × (e.taken < 1024)
CountedField (Ok Ended) e f = ⊥
CountedField (Err x) e f = (x ≡ TooLong) × ((1024 ≤ e.taken) ⊎ (39 ≤ array_vec_len e.fields.ends))

-- what one byte does, whatever was taken in before it and whatever text comes after it
abbrev pub Takes : Draft → ℕ → Result Event Fault → Draft → Type 0
Takes e b (Ok More) f = (p : List ℕ) → Holds e p → Holds f (p ++ (b ∷ []))
Takes e b (Ok Ended) f = (p : List ℕ) → Holds e p → (rest : List ℕ) → Record (p ++ (b ∷ rest)) (fields_of f.fields) rest
Takes e b (Err x) f = (p : List ℕ) → Holds e p → (rest : List ℕ) → FirstFault (p ++ (b ∷ rest)) (length p) x

-- what a part of a text does, whatever was taken in before it and whatever text comes after it
pub data ReadOn (Before : List ℕ → Type 0) (part : List ℕ) (r : Progress) (f : Draft) : Type 0 where
  -- all of it is taken in, and the record goes on
  onward : r.event ≡ Ok More → r.used ≡ length part → ((p : List ℕ) → Before p → Holds f (p ++ part)) → ReadOn Before part r f
  -- a record ends with what is used of it
  ended : r.event ≡ Ok Ended → 0 < r.used → r.used ≤ length part
      → ((p : List ℕ) → Before p → (rest : List ℕ) → Record (p ++ (part ++ rest)) (fields_of f.fields) (drop r.used part ++ rest)) → ReadOn Before part r f
  -- the first fault of the text lies after what is used of it
  broken : (x : Fault) → r.event ≡ Err x → r.used < length part
      → ((p : List ℕ) → Before p → (rest : List ℕ) → FirstFault (p ++ (part ++ rest)) (length p + r.used) x) → ReadOn Before part r f

-- what the end of a text does
pub data FinishOn (Before : List ℕ → Type 0) (r : Result Event Fault) (f : Draft) : Type 0 where
  -- it comes between two records
  clear : r ≡ Ok More → ((p : List ℕ) → Before p → (p ≡ []) × Holds f []) → FinishOn Before r f
  -- it ends a record
  finished : r ≡ Ok Ended → ((p : List ℕ) → Before p → Record p (fields_of f.fields) []) → FinishOn Before r f
  -- it comes too soon
  too_soon : (x : Fault) → r ≡ Err x → ((p : List ℕ) → Before p → FirstFault p (length p) x) → FinishOn Before r f
