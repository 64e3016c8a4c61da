-- The sums of the recovery of costs are the counts of the page.
use Rattle.std.proofs.Common.{◌≡◌, ℕ, [], ◌∷◌, Ok, arith}
use Rattle.recovery.specs.Entering.{Entered, Unentered}
use Rattle.recovery.specs.declared.part.Recovery.{Recovery}
use Rattle.journal.specs.Page.{enter, of_recovery, Line, noted, Page}
use Rattle.journal.specs.Counts.{costs, costs_waiting, market_revenue, moves, Counts}

-- each sum is a count, and all costs still wait
pub record Sums (page : Page) (s : Recovery) : Type 0 where
  pub entered : Counts page costs s.costs.cents.0
  pub waiting : Counts page costs_waiting s.waiting.0
  pub revenue : Counts page market_revenue s.revenue.cents.0
  pub all_wait : s.costs.cents.0 ≡ s.waiting.0

pub sums_opened : (s : Recovery) → Unentered s → Sums [] s
sums_opened s none = record { entered = omega arith; waiting = omega arith; revenue = omega arith; all_wait = omega arith }

-- a line that moves nothing leaves each sum as it was
pub sums_still : (newest : Line) (page : Page) (s s' : Recovery) → moves newest ≡ [] → s' ≡ s → Sums page s → Sums (newest ∷ page) s'
sums_still newest page s s' none same sums = record { entered = grind arith; waiting = grind arith; revenue = grind arith; all_wait = grind arith }

-- an accepted entry adds to each sum what it moves into its column
pub sums_entered : (page : Page) (s s' : Recovery) (kind cents : ℕ) → Entered s kind cents s' → Sums page s
    → Sums (noted (of_recovery (enter kind cents)) (Ok tt) ∷ page) s'
sums_entered page s s' kind cents did sums =
    record { entered = grind arith; waiting = grind arith; revenue = grind arith; all_wait = grind arith }
