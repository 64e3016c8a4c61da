-- How the fields of a record lie in memory: one after the other, each but the last with the place where it ends.
use Rattle.std.specs.Prelude.{ℕ, zero, suc, ◌<◌, ◌≤◌, List, [], ◌∷◌, ◌++◌, length, slice_index}
use Rattle.std.specs.List.{between}

-- where a field starts: where the one before it ends
abbrev pub start_of : List ℕ → ℕ → ℕ
start_of ends zero = 0
start_of ends (suc k) = slice_index ends k

-- no field ends before it starts
abbrev pub Ordered : List ℕ → Type 0
Ordered ends = (k : ℕ) → k < length ends → start_of ends k ≤ slice_index ends k

-- every field starts within what is filled
abbrev pub Inside : List ℕ → ℕ → Type 0
Inside ends len = (k : ℕ) → k ≤ length ends → start_of ends k ≤ len

-- the first fields, as many as are asked for
abbrev pub first_fields : List ℕ → List ℕ → ℕ → List (List ℕ)
first_fields bytes ends zero = []
first_fields bytes ends (suc k) = first_fields bytes ends k ++ (between (start_of ends k) (slice_index ends k) bytes ∷ [])
