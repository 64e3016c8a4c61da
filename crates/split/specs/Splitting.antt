-- When an amount can be split, and what the split makes of the places for the shares.
use Rattle.std.specs.Prelude.{◌≡◌, ℕ, Bool, cond, List, length, ℤ, Some, None, sum, Option, Result, ◌==◌, nat_le, unsigned_abs}
use Rattle.std.specs.Int.{is_in_range}
use Rattle.measures.specs.Answers.{Answered, unless}
use Rattle.measures.specs.declared.measure.SignedCents.{SignedCents}
use Rattle.split.specs.Shares.{amounts, shares_of}
use Rattle.split.specs.declared.reason.Unsplit.{Unsplit}
use Rattle.split.specs.declared.reason.Unsplit.TheVariants.{AmountTooLarge, TotalOutOfRange, WrongLength}

-- the largest size of an amount that is split: 10^14 cents
abbrev pub largest_amount : ℕ
largest_amount = 100000000000000

-- the highest total of weights
abbrev pub highest_total : ℕ
highest_total = 1000000

-- whether an amount may be split by a total
abbrev pub is_total : ℕ → Bool
is_total total = is_in_range 1 highest_total total

-- the total of the weights, if an amount may be split by it
abbrev pub allowed_total : List ℕ → Option ℕ
allowed_total weights = cond (is_total (sum weights)) (Some (sum weights)) None

-- the first reason against splitting an amount by these weights into so many places
abbrev pub against_splitting : ℤ → List ℕ → ℕ → Option Unsplit
against_splitting amount weights places =
    unless (nat_le (unsigned_abs amount) largest_amount) AmountTooLarge (
    unless (is_total (sum weights)) TotalOutOfRange (
    unless (places == length weights) WrongLength None))

-- an amount is split into the shares of the weights; if it cannot be, the places are as they were
abbrev pub Splits : {A : Type 0} → ℤ → List ℕ → Result A Unsplit → List SignedCents → List SignedCents → Type 0
Splits amount weights r before after = Answered (against_splitting amount weights (length before)) r before after (λ _. amounts after ≡ shares_of amount weights)
