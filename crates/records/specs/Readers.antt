-- What a reader has taken in, and what it makes of a part of a text and the text's end.
use Rattle.std.specs.Prelude.{◌≡◌, ℕ, List, [], Ok, Err, Result, ◌≢◌, ⊤}
use Rattle.records.specs.Drafts.{Holds, ReadOn, FinishOn}
use Rattle.records.specs.declared.draft.Draft.{Draft}
use Rattle.records.specs.declared.fault.Fault.{Fault}
use Rattle.records.specs.declared.reader.Reader.{Reader}
use Rattle.records.specs.declared.reader.Progress.{Progress}
use Rattle.records.specs.declared.reader.Event.{Event}
use Rattle.records.specs.declared.reader.Event.TheVariants.{More, Record as Ended}

-- the bytes of its record that a reader has taken in: between two records there are none, and a failed reader is in no record
abbrev pub TakenAs : Result Event Fault → Draft → List ℕ → Type 0
TakenAs (Ok More) d bytes = Holds d bytes
TakenAs (Ok Ended) d bytes = bytes ≡ []
TakenAs (Err x) d bytes = ⊥

abbrev pub Taken : Reader → List ℕ → Type 0
Taken r bytes = TakenAs r.status r.draft bytes

-- the reading has not ended at a fault
abbrev pub Going : Reader → Type 0
Going e = (x : Fault) → e.status ≢ Err x

-- made ready for the next byte: what was taken in stays, and a failed reader stays as it is
abbrev pub Readied : Reader → Result ⊤ Fault → Reader → Type 0
Readied e (Ok _) f = Going e × ((p : List ℕ) → Taken e p → Holds f.draft p)
Readied e (Err x) f = (e.status ≡ Err x) × (f ≡ e)

-- a part of a text does the same to what was taken in, and the reader keeps what that came to; once the reading has ended at a fault, the reader stays as it is and answers the fault again
abbrev pub ReadsAs : Result Event Fault → Reader → List ℕ → Progress → Reader → Type 0
ReadsAs (Ok v) e part r f = (f.status ≡ r.event) × ReadOn (Taken e) part r f.draft
ReadsAs (Err x) e part r f = (r.event ≡ Err x) × (r.used ≡ 0) × (f ≡ e)

-- so does the end of the text
abbrev pub FinishesAs : Result Event Fault → Reader → Result Event Fault → Reader → Type 0
FinishesAs (Ok v) e r f = (f.status ≡ r) × FinishOn (Taken e) r f.draft
FinishesAs (Err x) e r f = (r ≡ Err x) × (f ≡ e)

abbrev pub Reads : Reader → List ℕ → Progress → Reader → Type 0
Reads e part r f = ReadsAs e.status e part r f

abbrev pub Finishes : Reader → Result Event Fault → Reader → Type 0
Finishes e r f = FinishesAs e.status e r f
