-- The limits of the table and of credit.
use Rattle.std.specs.Prelude.{ℕ, ◌^◌}

-- the most accounts that a table lists
abbrev pub most_accounts : ℕ
most_accounts = 256

-- the most credit that an account of a table has, in cents
abbrev pub most_credit : ℕ
most_credit = 10 ^ 12

-- the most that an account of a table takes in one posting, in cents
abbrev pub most_at_once : ℕ
most_at_once = 10 ^ 10
