-- The one place that says which number and which values each answer has, and what it means to be refused.
use Rattle.std.specs.Prelude.{◌≡◌, ℕ, Bool, cond, pos, Some, None, Ok, Err, Option, Result}
use Rattle.measures.specs.declared.refusal.Refusal.{Refusal}
use Rattle.measures.specs.declared.refusal.Refusal.TheVariants.{Unlisted, AlreadyEnrolled, OutOfRange, BeforeBookDay, WrongStanding, BadWeights, BadAccounts, LimitPassed, TableFull, BadText, TooLong, NoCall}
use Rattle.measures.specs.declared.answer.Row.{Row}

-- the number of a refusal
abbrev pub number_of : Refusal → ℕ
number_of Unlisted = 1
number_of AlreadyEnrolled = 2
number_of OutOfRange = 3
number_of BeforeBookDay = 4
number_of WrongStanding = 5
number_of BadWeights = 8
number_of BadAccounts = 9
number_of LimitPassed = 14
number_of TableFull = 16
number_of BadText = 19
number_of TooLong = 20
number_of NoCall = 21

-- the numbers that a record shows for an answer: the refusal's number or 0, then two values
abbrev pub row_of : {A : Type 0} → Result A Refusal → Row
row_of (Ok x) = record { refusal = 0; first = pos 0; second = pos 0 }
row_of (Err refusal) = record { refusal = number_of refusal; first = pos 0; second = pos 0 }

-- a reason unless the test holds, and then the next reason, if there is one
abbrev pub unless : {R : Type 0} → Bool → R → Option R → Option R
unless test reason next = cond test next (Some reason)

-- a call is carried out if there is no reason against it; else it is refused for the first, and what it was made on is as it was
abbrev pub Answered : {A R S : Type 0} → Option R → Result A R → S → S → (A → Type 0) → Type 0
Answered reason (Ok x) before after carried_out = (reason ≡ None) × carried_out x
Answered reason (Err e) before after carried_out = (reason ≡ Some e) × (after ≡ before)
