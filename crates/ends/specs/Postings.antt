-- What a posting means at every billing end, by the credits and the reaches that the end shows.
use Rattle.std.specs.Prelude.{◌≡◌, ℕ, ◌+◌, Bool, false, cond, ◌&&◌, ◌==◌}
use Rattle.std.specs.Int.{is_in_range}

-- whether an account of this reach takes a posting of so many cents: from 1 to its reach
abbrev pub takes : ℕ → ℕ → Bool
takes reach cents = is_in_range 1 reach cents

-- a posting of so many cents to an account, and what it makes of the credits and the reaches
pub record Posting (credit reach : ℕ → ℕ) (account cents : ℕ) (taken : Bool) (credit' reach' : ℕ → ℕ) : Type 0 where
  -- it is taken exactly if the account's reach takes it
  pub answer : taken ≡ takes (reach account) cents
  -- a taken posting raises that credit by its cents, and nothing alters another credit
  pub credits : (n : ℕ) → credit' n ≡ credit n + cond (taken && n == account) cents 0
  -- a posting that is not taken alters no reach
  pub reaches : taken ≡ false → (n : ℕ) → reach' n ≡ reach n
