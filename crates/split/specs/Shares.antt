-- The rule of the split: each entry gets what falls to the weights up to it, rounded down, less what falls to those before it.
use Rattle.std.specs.Prelude.{ℕ, ◌+◌, ◌-◌, ◌*◌, ◌/◌, List, [], ◌∷◌, map, ℤ, sum, unsigned_abs}
use Rattle.measures.specs.Rounding.{with_sign_of}
use Rattle.measures.specs.declared.measure.SignedCents.{SignedCents}

-- what falls to the first so many of the total, rounded down
abbrev pub part : ℕ → ℕ → ℕ → ℕ
part size total reached = size * reached / total

-- the share between two totals of weights; a negative amount has the negated share of its size
abbrev pub share : ℤ → ℕ → ℕ → ℕ → ℤ
share amount total before reached = with_sign_of amount (part (unsigned_abs amount) total reached - part (unsigned_abs amount) total before)

-- the shares of entries of these weights, after weights that come to `before`
abbrev pub shares_from : ℤ → ℕ → ℕ → List ℕ → List ℤ
shares_from amount total before [] = []
shares_from amount total before (w ∷ ws) = share amount total before (before + w) ∷ shares_from amount total (before + w) ws

-- the shares of an amount, by weights
abbrev pub shares_of : ℤ → List ℕ → List ℤ
shares_of amount weights = shares_from amount (sum weights) 0 weights

-- the cents of each share
abbrev pub amounts : List SignedCents → List ℤ
amounts shares = map (λ s. s.0) shares
