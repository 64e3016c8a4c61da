-- What a reader makes of a part of a text and of its end, from what the record in it makes of them.
use Rattle.std.proofs.Common.{◌≡◌, List, ℕ, Ok, Err, Result, refl}
use Rattle.records.specs.Drafts.{Holds, ReadOn, onward, ended, broken, FinishOn, clear, finished, too_soon}
use Rattle.records.specs.Readers.{Taken, Readied, ReadsAs, FinishesAs, Reads, Finishes}
use Rattle.records.specs.declared.draft.Draft.{Draft}
use Rattle.records.specs.declared.fault.Fault.{Fault}
use Rattle.records.specs.declared.reader.Reader.{Reader}
use Rattle.records.specs.declared.reader.Progress.{Progress}
use Rattle.records.specs.declared.reader.Event.{Event}

-- a reader that was made ready first

read_ready : {T U : List ℕ → Type 0} {part : List ℕ} {r : Progress} {d : Draft} → ((p : List ℕ) → T p → U p) → ReadOn U part r d → ReadOn T part r d
read_ready t (onward v u h) = onward v u (λ p k. h p (t p k))
read_ready t (ended v z u h) = ended v z u (λ p k. h p (t p k))
read_ready t (broken x v u h) = broken x v u (λ p k. h p (t p k))

finish_ready : {T U : List ℕ → Type 0} {r : Result Event Fault} {d : Draft} → ((p : List ℕ) → T p → U p) → FinishOn U r d → FinishOn T r d
finish_ready t (clear v h) = clear v (λ p k. h p (t p k))
finish_ready t (finished v h) = finished v (λ p k. h p (t p k))
finish_ready t (too_soon x v h) = too_soon x v (λ p k. h p (t p k))

reads_as : (s : Result Event Fault) (e : Reader) (part : List ℕ) (r : Progress) (f : Reader) → ((x : Fault) → s ≡ Err x → ⊥) → f.status ≡ r.event → ReadOn (Taken e) part r f.draft → ReadsAs s e part r f
reads_as (Ok v) e part r f goes s h = (s, h)
reads_as (Err x) e part r f goes s h = absurd (goes x refl)

finishes_as : (s : Result Event Fault) (e : Reader) (r : Result Event Fault) (f : Reader) → ((x : Fault) → s ≡ Err x → ⊥) → f.status ≡ r → FinishOn (Taken e) r f.draft → FinishesAs s e r f
finishes_as (Ok v) e r f goes s h = (s, h)
finishes_as (Err x) e r f goes s h = absurd (goes x refl)

pub reads_ready : (e g f : Reader) (part : List ℕ) (r : Progress) → Readied e (Ok tt) g → f.status ≡ r.event → ReadOn (Holds g.draft) part r f.draft → Reads e part r f
reads_ready e g f part r (goes, t) s h = reads_as e.status e part r f goes s (read_ready t h)

pub finishes_ready : (e g f : Reader) (r : Result Event Fault) → Readied e (Ok tt) g → f.status ≡ r → FinishOn (Holds g.draft) r f.draft → Finishes e r f
finishes_ready e g f r (goes, t) s h = finishes_as e.status e r f goes s (finish_ready t h)
