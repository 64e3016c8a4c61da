-- The units of a book: what each call answers and leaves.
use Rattle.std.specs.Prelude.{◌≡◌, ℕ, not, List, is_some, Some, None, Option, Result, nat_le, slice_index_or, slice_set}
use Rattle.std.specs.Option.{option_map}
use Rattle.measures.specs.Answers.{unless, Answered}
use Rattle.measures.specs.Measures.{is_unit, is_day}
use Rattle.measures.specs.declared.number.Day.{Day}
use Rattle.measures.specs.declared.refusal.Refusal.{Refusal}
use Rattle.measures.specs.declared.refusal.Refusal.TheVariants.{Unlisted, AlreadyEnrolled, OutOfRange, BeforeBookDay}
use Rattle.forms.specs.Lines.{against_form}
use Rattle.forms.specs.declared.line.FormLine.{FormLine}
use Rattle.tariff.specs.Terms.{terms_in}
use Rattle.tariff.specs.declared.terms.Enrolment.{Enrolment}
use Rattle.units.specs.Unit.{newly_enrolled, against_noticing, noticed, with_waiting}
use Rattle.units.specs.declared.part.Units.{Units}
use Rattle.units.specs.declared.unit.Unit.{Unit as Enrolled}

-- the unit of a number, if it is enrolled
abbrev pub unit_of : Units → ℕ → Option Enrolled
unit_of us n = slice_index_or us.units n None

-- the units, with the one of that number changed
abbrev pub changed : Units → ℕ → (Enrolled → Enrolled) → List (Option Enrolled)
changed us n change = slice_set us.units n (option_map change (unit_of us n))

-- the first reason against enrolling: no place for that number, enrolled already, or a number out of range
abbrev pub against_enrolling : Units → ℕ → Enrolment → Option Refusal
against_enrolling us n given =
    unless (is_unit n) Unlisted (
    unless (not (is_some (unit_of us n))) AlreadyEnrolled (
    unless (is_some (terms_in given)) OutOfRange None))

-- what enrolling answers and leaves
abbrev pub Enrols : {A : Type 0} → Units → ℕ → Enrolment → Result A Refusal → Units → Type 0
Enrols us n given r us' =
    Answered (against_enrolling us n given) r us us' (λ _. us'.units ≡ slice_set us.units n (option_map newly_enrolled (terms_in given)))

-- the first reason against a notice: not enrolled, or what speaks against it at that unit
abbrev pub against_notice : Option Enrolled → ℕ → Day → Option Refusal
against_notice None number day = Some Unlisted
against_notice (Some u) number day = against_noticing u number day

-- what a notice answers and leaves
abbrev pub Notices : {A : Type 0} → Units → ℕ → ℕ → Day → Result A Refusal → Units → Type 0
Notices us n number day r us' = Answered (against_notice (unit_of us n) number day) r us us' (λ _. us'.units ≡ changed us n (noticed number day))

-- the first reason against filing a form: not enrolled, no such day, a day before the book's, or what speaks against the form
abbrev pub against_filing : Option Enrolled → Day → Day → List FormLine → Option Refusal
against_filing None day today lines = Some Unlisted
against_filing (Some u) day today lines =
    unless (is_day day.0) OutOfRange (
    unless (nat_le today.0 day.0) BeforeBookDay (
    against_form lines))

-- what filing a form answers and leaves
abbrev pub Files : {A : Type 0} → Units → ℕ → Day → Day → List FormLine → Result A Refusal → Units → Type 0
Files us n day today lines r us' = Answered (against_filing (unit_of us n) day today lines) r us us' (λ _. us'.units ≡ changed us n (with_waiting day lines))
