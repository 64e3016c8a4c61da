-- The journal page: the calls that were made on a book, with their inputs and answers, the newest first.
use Rattle.std.specs.Prelude.{ℕ, List, Result}
use Rattle.measures.specs.declared.number.Day.{Day}
use Rattle.measures.specs.declared.refusal.Refusal.{Refusal}
use Rattle.forms.specs.declared.line.FormLine.{FormLine}
use Rattle.tariff.specs.declared.terms.Enrolment.{Enrolment}

-- the calls on one unit
pub data UnitCall : Type 0 where
  enrol : (given : Enrolment) → UnitCall
  notice : (number : ℕ) (day : Day) → UnitCall
  form : (day : Day) (lines : List FormLine) → UnitCall

-- the calls on the recovery of costs
pub data RecoveryCall : Type 0 where
  enter : (kind cents : ℕ) → RecoveryCall

-- the calls
pub data Call : Type 0 where
  of_unit : (unit : ℕ) → UnitCall → Call
  basic : (class rate : ℕ) → Call
  of_recovery : RecoveryCall → Call

-- no value to report
abbrev pub Nothing : Type 0
Nothing = Unit {0}

-- what an accepted call answers: none of these has a value to report
abbrev pub AnswerTo : Call → Type 0
AnswerTo (of_unit unit call) = Nothing
AnswerTo (basic class rate) = Nothing
AnswerTo (of_recovery call) = Nothing

-- a line: a call, and its answer or the reason for which it was refused
pub data Line : Type 0 where
  noted : (call : Call) → Result (AnswerTo call) Refusal → Line

-- a page: the newest line first
abbrev pub Page : Type 0
Page = List Line
