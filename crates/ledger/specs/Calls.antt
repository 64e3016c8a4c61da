-- What each call on the book answers and leaves: refused for the first reason there is, with the whole book as it was,
-- or carried out on its part, with every other part as it was.
use Rattle.std.specs.Prelude.{◌≡◌, ℕ, List, replicate, None, Option, Result, slice_set}
use Rattle.std.specs.Option.{option_map}
use Rattle.measures.specs.Answers.{Answered}
use Rattle.measures.specs.declared.measure.Rate.{Rate}
use Rattle.measures.specs.declared.number.Day.{Day}
use Rattle.measures.specs.declared.refusal.Refusal.{Refusal}
use Rattle.forms.specs.declared.line.FormLine.{FormLine}
use Rattle.tariff.specs.Rates.{against_setting, no_rate}
use Rattle.tariff.specs.Terms.{terms_in}
use Rattle.tariff.specs.declared.terms.Enrolment.{Enrolment}
use Rattle.units.specs.Unit.{newly_enrolled, noticed, with_waiting}
use Rattle.units.specs.Units.{unit_of, changed, against_enrolling, against_notice, against_filing}
use Rattle.units.specs.declared.unit.Unit.{Unit as Enrolled}
use Rattle.recovery.specs.Entering.{against_entering, Entered, Unentered}
use Rattle.recovery.specs.declared.part.Recovery.{Recovery}
use Rattle.ledger.specs.declared.book.Book.{Book}

-- a book as it is opened: day 0, no unit enrolled, every rate 0, nothing entered
pub record Opened (b : Book) : Type 0 where
  pub day : b.day.0 ≡ 0
  pub units : b.units.units ≡ replicate 32 None
  pub rates : b.rates.rates ≡ replicate 8 no_rate
  pub recovery : Unentered b.recovery

-- a call on the units: these are the units after it, and this is the book's day; the other parts are as they were
pub record OnUnits (enrolled : List (Option Enrolled)) (today : Day) (b b' : Book) : Type 0 where
  pub units : b'.units.units ≡ enrolled
  pub day : b'.day ≡ today
  pub rates : b'.rates ≡ b.rates
  pub recovery : b'.recovery ≡ b.recovery

-- a call on the rates: these are the rates of the classes after it, and the rest is as it was
pub record OnRates (by_class : List Rate) (b b' : Book) : Type 0 where
  pub rates : b'.rates.rates ≡ by_class
  pub day : b'.day ≡ b.day
  pub units : b'.units ≡ b.units
  pub recovery : b'.recovery ≡ b.recovery

-- a call on the recovery of costs: this is what became of it, and the rest is as it was
pub record OnRecovery (became : Recovery → Recovery → Type 0) (b b' : Book) : Type 0 where
  pub recovery : became b.recovery b'.recovery
  pub day : b'.day ≡ b.day
  pub units : b'.units ≡ b.units
  pub rates : b'.rates ≡ b.rates

-- enrolling: the unit waits to be authorised, on the terms that were given
abbrev pub Enrols : {A : Type 0} → Book → ℕ → Enrolment → Result A Refusal → Book → Type 0
Enrols b n given r b' =
    Answered (against_enrolling b.units n given) r b b'
    (λ _. OnUnits (slice_set b.units.units n (option_map newly_enrolled (terms_in given))) b.day b b')

-- a notice: the unit's standing moves
abbrev pub Notices : {A : Type 0} → Book → ℕ → ℕ → Day → Result A Refusal → Book → Type 0
Notices b n number day r b' =
    Answered (against_notice (unit_of b.units n) number day) r b b'
    (λ _. OnUnits (changed b.units n (noticed number day)) b.day b b')

-- a Basic Service rate: the class has it
abbrev pub SetsBasic : {A : Type 0} → Book → ℕ → ℕ → Result A Refusal → Book → Type 0
SetsBasic b class rate r b' =
    Answered (against_setting class rate) r b b'
    (λ _. OnRates (slice_set b.rates.rates class (record { 0 = rate })) b b')

-- a form: it waits at the unit in place of any other, and its day is the book's
abbrev pub Forms : {A : Type 0} → Book → ℕ → Day → List FormLine → Result A Refusal → Book → Type 0
Forms b n day lines r b' =
    Answered (against_filing (unit_of b.units n) day b.day lines) r b b'
    (λ _. OnUnits (changed b.units n (with_waiting day lines)) day b b')

-- an entry: costs or market revenue are added
abbrev pub Enters : {A : Type 0} → Book → ℕ → ℕ → Result A Refusal → Book → Type 0
Enters b kind cents r b' =
    Answered (against_entering b.recovery kind cents) r b b'
    (λ _. OnRecovery (λ s s'. Entered s kind cents s') b b')
