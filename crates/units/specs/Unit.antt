-- One unit: what a notice does to it, and its forms on file.
use Rattle.std.specs.Prelude.{◌≡◌, ℕ, Bool, true, ◌&&◌, List, is_some, Some, None, Option, Result, option_and_then, unwrap_or}
use Rattle.std.specs.List.{AllPass}
use Rattle.measures.specs.Answers.{unless, Answered}
use Rattle.measures.specs.Measures.{is_day}
use Rattle.measures.specs.declared.number.Day.{Day}
use Rattle.measures.specs.declared.refusal.Refusal.{Refusal}
use Rattle.measures.specs.declared.refusal.Refusal.TheVariants.{OutOfRange, WrongStanding}
use Rattle.forms.specs.Rows.{lawful, row_of}
use Rattle.forms.specs.declared.line.FormLine.{FormLine}
use Rattle.forms.specs.declared.row.FormRow.{FormRow}
use Rattle.tariff.specs.Standings.{notice_in, moved}
use Rattle.tariff.specs.declared.standing.Notice.{Notice}
use Rattle.tariff.specs.declared.standing.Standing.{Standing}
use Rattle.tariff.specs.declared.standing.Standing.TheVariants.{Waiting}
use Rattle.tariff.specs.declared.terms.Terms.{Terms}
use Rattle.units.specs.declared.waiting.Received.{Received}
use Rattle.units.specs.declared.unit.Unit.{Unit as Enrolled}

-- whether a form on file, if there is one, is lawful
abbrev pub filed : Option (Received FormRow) → Bool
filed None = true
filed (Some received) = lawful received.form

-- whether the forms on file of a unit, if it is enrolled, are lawful
abbrev pub unit_filed : Option Enrolled → Bool
unit_filed None = true
unit_filed (Some u) = filed u.waiting

-- the forms on file of every unit are lawful
abbrev pub AllFiled : List (Option Enrolled) → Type 0
AllFiled units = AllPass unit_filed units

-- a unit at its enrolment: it waits to be authorised, and has no form
abbrev pub newly_enrolled : Terms → Enrolled
newly_enrolled terms = record { terms = terms; standing = Waiting; waiting = None }

-- the standing that a notice of this number moves a unit to, if it does
abbrev pub next_standing : Enrolled → ℕ → Day → Option Standing
next_standing u number day = option_and_then (λ notice. moved u.standing notice day) (notice_in number)

-- the unit in another standing
abbrev pub with_standing : Standing → Enrolled → Enrolled
with_standing standing u = record u { standing = standing }

-- the unit after a notice
abbrev pub noticed : ℕ → Day → Enrolled → Enrolled
noticed number day u = with_standing (unwrap_or (next_standing u number day) u.standing) u

-- the first reason against a notice to an enrolled unit: no such notice or day, or the standing does not allow it
abbrev pub against_noticing : Enrolled → ℕ → Day → Option Refusal
against_noticing u number day =
    unless (is_some (notice_in number) && is_day day.0) OutOfRange (
    unless (is_some (next_standing u number day)) WrongStanding None)

-- what a notice to an enrolled unit answers and leaves: refused on a day out of range, then where the standing does not allow it
abbrev pub Noted : {A : Type 0} → Enrolled → Notice → Day → Result A Refusal → Enrolled → Type 0
Noted u notice day r u' =
    Answered (unless (is_day day.0) OutOfRange (unless (is_some (moved u.standing notice day)) WrongStanding None)) r u u'
    (λ _. u' ≡ with_standing (unwrap_or (moved u.standing notice day) u.standing) u)

-- the unit with a form of these lines, received on that day, waiting in place of any other
abbrev pub with_waiting : Day → List FormLine → Enrolled → Enrolled
with_waiting day lines u = record u { waiting = Some (record { day = day; form = row_of lines }) }
