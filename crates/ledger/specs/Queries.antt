-- What each query answers.
use Rattle.std.specs.Prelude.{ℕ, ℤ, Option, Result}
use Rattle.measures.specs.declared.refusal.Refusal.{Refusal}
use Rattle.recovery.specs.Entering.{balance_of}
use Rattle.units.specs.Units.{unit_of}
use Rattle.units.specs.Waiting.{WaitingForm, Shows}
use Rattle.ledger.specs.declared.book.Book.{Book}

-- all costs ever entered, in cents
abbrev pub costs_entered : Book → ℕ
costs_entered b = b.recovery.costs.cents.0

-- the costs that are not yet in the balance, in cents
abbrev pub costs_not_in_balance : Book → ℕ
costs_not_in_balance b = b.recovery.waiting.0

-- all market revenue ever entered, in cents
abbrev pub market_revenue : Book → ℕ
market_revenue b = b.recovery.revenue.cents.0

-- what the rate classes still owe, in cents, or are owed where it is negative
abbrev pub balance : Book → ℤ
balance b = balance_of b.recovery

-- the waiting form of a unit, as it lies on file; refused if the unit is not enrolled
abbrev pub Waits : Book → ℕ → Result (Option WaitingForm) Refusal → Type 0
Waits b n r = Shows (unit_of b.units n) r
