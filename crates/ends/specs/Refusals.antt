-- Why opening or closing an account is refused.
use Rattle.std.specs.Prelude.{ℕ, ◌||◌, List, length, None, Option, nat_lt}
use Rattle.measures.specs.Answers.{unless}
use Rattle.measures.specs.Measures.{is_account}
use Rattle.measures.specs.declared.refusal.Refusal.{Refusal}
use Rattle.measures.specs.declared.refusal.Refusal.TheVariants.{Unlisted, OutOfRange, TableFull}
use Rattle.ends.specs.declared.account.Account.{Account}
use Rattle.ends.specs.Accounts.{is_listed}
use Rattle.ends.specs.Limits.{most_accounts}

-- the first reason against opening account n: no account number, or 256 others are listed
abbrev pub against_opening : List Account → ℕ → Option Refusal
against_opening accounts n =
    unless (is_account n) OutOfRange (
    unless (is_listed accounts n || nat_lt (length accounts) most_accounts) TableFull None)

-- the first reason against closing account n: no account number, or not listed
abbrev pub against_closing : List Account → ℕ → Option Refusal
against_closing accounts n =
    unless (is_account n) OutOfRange (
    unless (is_listed accounts n) Unlisted None)
