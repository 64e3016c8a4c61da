-- Where an account stands in a table; only the table's own code speaks of this.
use Rattle.std.specs.Prelude.{◌≡◌, ℕ, ◌<◌, true, false, length, Some, None, Option, slice_index_or}
use Rattle.ends.specs.declared.account.Account.{Account}
use Rattle.ends.specs.declared.table.AccountTable.{AccountTable}
use Rattle.ends.specs.Accounts.{found, place, sound}
use Rattle.ends.specs.Tables.{listed}

-- what a read past the listed accounts would give: an account of number 0, closed and without credit
abbrev pub no_account : Account
no_account = record { number = record { 0 = 0 }; credit = record { 0 = 0 }; «open» = false }

-- the account at a place
abbrev pub account_at : AccountTable → ℕ → Account
account_at t i = slice_index_or (listed t) i no_account

-- account n is listed, and stands at place i
pub record StandsAt (t : AccountTable) (n i : ℕ) : Type 0 where
  pub within : i < length (listed t)
  pub first : place (listed t) n ≡ i
  pub there : found (listed t) n ≡ Some (account_at t i)
  pub named : (account_at t i).number.0 ≡ n
  pub holds : sound (account_at t i) ≡ true

-- where account n stands, if it is listed
abbrev pub Stands : AccountTable → ℕ → Option ℕ → Type 0
Stands t n (Some i) = StandsAt t n i
Stands t n None = found (listed t) n ≡ None
