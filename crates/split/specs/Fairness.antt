-- What is fair in a split, whatever the rule by which the shares are found.
use Rattle.std.specs.Prelude.{◌≡◌, ℕ, ◌<◌, List, [], ◌∷◌, length, ℤ, pos, ◌+ℤ◌, ◌-ℤ◌, ◌*ℤ◌, sum, slice_index, slice_index_or, unsigned_abs}

-- what shares add up to
abbrev pub added : List ℤ → ℤ
added [] = pos 0
added (s ∷ rest) = s +ℤ added rest

-- the shares add up to the amount
abbrev pub Whole : ℤ → List ℤ → Type 0
Whole amount shares = added shares ≡ amount

-- each share is less than one cent from the exact part, amount * weight / total; here both are multiplied by the total
abbrev pub Close : ℤ → List ℕ → List ℤ → Type 0
Close amount weights shares =
    (k : ℕ) → k < length weights → unsigned_abs (slice_index_or shares k (pos 0) *ℤ pos (sum weights) -ℤ amount *ℤ pos (slice_index weights k)) < sum weights

-- an entry of no weight gets nothing
abbrev pub NoneForNone : List ℕ → List ℤ → Type 0
NoneForNone weights shares = (k : ℕ) → k < length weights → slice_index weights k ≡ 0 → slice_index_or shares k (pos 0) ≡ pos 0
