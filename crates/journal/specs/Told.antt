-- What a page tells of the book's day, of the rates of the classes, and of each unit. A refused call tells nothing.
use Rattle.std.specs.Prelude.{ℕ, cond, List, [], ◌∷◌, Some, None, Ok, Err, Option, ◌==◌, option_and_then, option_map, unwrap_or}
use Rattle.measures.specs.declared.number.Day.{Day}
use Rattle.forms.specs.Rows.{lines_of}
use Rattle.forms.specs.declared.line.FormLine.{FormLine}
use Rattle.forms.specs.declared.row.FormRow.{FormRow}
use Rattle.tariff.specs.Standings.{notice_in, moved}
use Rattle.tariff.specs.Terms.{terms_in}
use Rattle.tariff.specs.declared.standing.Standing.{Standing}
use Rattle.tariff.specs.declared.standing.Standing.TheVariants.{Waiting}
use Rattle.tariff.specs.declared.terms.Terms.{Terms}
use Rattle.units.specs.declared.unit.Unit.{Unit as Enrolled}
use Rattle.units.specs.declared.waiting.Received.{Received}
use Rattle.journal.specs.Page.{UnitCall, enrol, notice, form, Call, of_unit, basic, of_recovery, Line, noted, Page}

-- the call of a line, if it was accepted
abbrev pub accepted : Line → Option Call
accepted (noted call (Ok answer)) = Some call
accepted (noted call (Err refusal)) = None

-- the day that a dated call sets
abbrev pub unit_day : UnitCall → Option ℕ
unit_day (enrol given) = None
unit_day (notice number day) = None
unit_day (form day lines) = Some day.0

abbrev pub day_set : Call → Option ℕ
day_set (of_unit unit call) = unit_day call
day_set (basic class rate) = None
day_set (of_recovery call) = None

-- the book's day: that of the newest accepted dated call, and 0 before the first
abbrev pub day_on : Page → ℕ
day_on [] = 0
day_on (newest ∷ page) = unwrap_or (option_and_then day_set (accepted newest)) (day_on page)

-- the rate that a call sets for a class
abbrev pub rate_set : ℕ → Call → Option ℕ
rate_set class (of_unit unit call) = None
rate_set class (basic other rate) = cond (class == other) (Some rate) None
rate_set class (of_recovery call) = None

-- the Basic Service rate of a class: the newest that was accepted for it, and 0 before the first
abbrev pub rate_on : Page → ℕ → ℕ
rate_on [] class = 0
rate_on (newest ∷ page) class = unwrap_or (option_and_then (rate_set class) (accepted newest)) (rate_on page class)

-- the call on a unit, if it is one
abbrev pub call_at : ℕ → Call → Option UnitCall
call_at unit (of_unit other call) = cond (unit == other) (Some call) None
call_at unit (basic class rate) = None
call_at unit (of_recovery call) = None

-- the accepted call of a line on a unit, if it is one
abbrev pub accepted_at : ℕ → Line → Option UnitCall
accepted_at unit newest = option_and_then (call_at unit) (accepted newest)

-- what an accepted call makes of something about its unit
abbrev pub after_call : {A : Type 0} → Option UnitCall → (UnitCall → A → A) → A → A
after_call None make before = before
after_call (Some call) make before = make call before

-- the terms of a unit are those of its enrolment
abbrev pub terms_after : UnitCall → Option Terms → Option Terms
terms_after (enrol given) before = terms_in given
terms_after (notice number day) before = before
terms_after (form day lines) before = before

abbrev pub terms_on : Page → ℕ → Option Terms
terms_on [] unit = None
terms_on (newest ∷ page) unit = after_call (accepted_at unit newest) terms_after (terms_on page unit)

-- the standing of a unit is waiting at its enrolment, and moves with each notice
abbrev pub standing_after : UnitCall → Standing → Standing
standing_after (enrol given) before = Waiting
standing_after (notice number day) before = unwrap_or (option_and_then (λ notice. moved before notice day) (notice_in number)) before
standing_after (form day lines) before = before

abbrev pub standing_on : Page → ℕ → Standing
standing_on [] unit = Waiting
standing_on (newest ∷ page) unit = after_call (accepted_at unit newest) standing_after (standing_on page unit)

-- a form as a page tells of it: the day on which it was received, and its lines
pub record FormTold : Type 0 where
  pub day : Day
  pub lines : List FormLine

-- the waiting form of a unit is the newest that it gave since its enrolment
abbrev pub waiting_after : UnitCall → Option FormTold → Option FormTold
waiting_after (enrol given) before = None
waiting_after (notice number day) before = before
waiting_after (form day lines) before = Some (record { day = day; lines = lines })

abbrev pub waiting_on : Page → ℕ → Option FormTold
waiting_on [] unit = None
waiting_on (newest ∷ page) unit = after_call (accepted_at unit newest) waiting_after (waiting_on page unit)

-- a unit as a page tells of it
pub record Told : Type 0 where
  pub terms : Terms
  pub standing : Standing
  pub waiting : Option FormTold

-- the unit of a number is enrolled if the page has terms for it
abbrev pub unit_on : Page → ℕ → Option Told
unit_on page unit = option_map (λ terms. record { terms = terms; standing = standing_on page unit; waiting = waiting_on page unit }) (terms_on page unit)

-- what a form on file shows of itself: its day and its lines
abbrev pub form_shown : Received FormRow → FormTold
form_shown filed = record { day = filed.day; lines = lines_of filed.form }

-- what a unit of the book shows of itself
abbrev pub shown : Enrolled → Told
shown u = record { terms = u.terms; standing = u.standing; waiting = option_map form_shown u.waiting }
