-- What is shown of a unit's waiting form.
use Rattle.std.specs.Prelude.{◌≡◌, Some, None, Ok, Err, Option, Result}
use Rattle.std.specs.Option.{option_map}
use Rattle.forms.specs.declared.allocation.Form.{Form}
use Rattle.forms.specs.declared.row.FormRow.{FormRow}
use Rattle.measures.specs.declared.refusal.Refusal.{Refusal}
use Rattle.measures.specs.declared.refusal.Refusal.TheVariants.{Unlisted}
use Rattle.units.specs.declared.unit.Unit.{Unit as Enrolled}
use Rattle.units.specs.declared.waiting.Received.{Received}

-- a form that waits to come into force, and the day on which it was received
abbrev pub WaitingForm : Type 0
WaitingForm = Received Form

-- a waiting form as it lies on file
abbrev pub as_filed : WaitingForm → Received FormRow
as_filed w = record { day = w.day; form = w.form.row }

-- the waiting form of an enrolled unit, if there is one, is shown as it lies on file; a unit that is not enrolled is refused
abbrev pub Shows : Option Enrolled → Result (Option WaitingForm) Refusal → Type 0
Shows (Some u) (Ok shown) = option_map as_filed shown ≡ u.waiting
Shows (Some u) (Err refusal) = ⊥
Shows None (Ok shown) = ⊥
Shows None (Err refusal) = refusal ≡ Unlisted
