-- When an amount is divided.
use Rattle.std.specs.Prelude.{◌≡◌, ℕ, List, length, Some, None, Ok, Err, sum, Result}
use Rattle.measures.specs.declared.measure.SignedCents.{SignedCents}
use Rattle.split.specs.Splitting.{against_splitting}
use Rattle.split.specs.declared.division.Division.{Division}
use Rattle.split.specs.declared.reason.Unsplit.{Unsplit}

-- the amount and the total by which it may be split into so many places, or the first reason against it
abbrev pub Allows : SignedCents → List ℕ → ℕ → Result Division Unsplit → Type 0
Allows amount weights places (Ok division) = (against_splitting amount.0 weights places ≡ None) × (division.amount ≡ amount) × (division.total ≡ sum weights) × (places ≡ length weights)
Allows amount weights places (Err e) = against_splitting amount.0 weights places ≡ Some e
