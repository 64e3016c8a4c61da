-- What each call answers, and what it makes of the account table.
use Rattle.std.specs.Prelude.{◌≡◌, ℕ, cond, List, Some, None, Option, Result, ◌==◌, nat_le}
use Rattle.measures.specs.Answers.{unless, Answered}
use Rattle.measures.specs.declared.refusal.Refusal.{Refusal}
use Rattle.measures.specs.declared.refusal.Refusal.TheVariants.{OutOfRange}
use Rattle.ends.specs.Accounts.{opened, closed}
use Rattle.ends.specs.Refusals.{against_opening, against_closing}
use Rattle.ends.specs.Tables.{listed}
use Rattle.ends.specs.declared.account.Account.{Account}
use Rattle.ends.specs.declared.table.AccountTable.{AccountTable}
use Rattle.desk.specs.declared.carry.Setting.{Setting}
use Rattle.desk.specs.declared.carry.Setting.TheVariants.{Opened, Closed}
use Rattle.desk.specs.declared.call.Call.{Call}
use Rattle.desk.specs.declared.call.Call.TheVariants.{Account as account}

-- what a flag asks for an account: 1 to open it, 0 to close it
abbrev pub setting_in : ℕ → Option Setting
setting_in flag = cond (flag == 1) (Some Opened) (cond (flag == 0) (Some Closed) None)

-- the first reason against setting an account: a flag that is neither 1 nor 0, or what speaks against opening or closing it
abbrev pub against_setting : List Account → ℕ → ℕ → Option Refusal
against_setting accounts number flag = unless (nat_le flag 1) OutOfRange (cond (flag == 1) (against_opening accounts number) (against_closing accounts number))

-- the accounts after an account is set: opened by the flag 1, closed by 0
abbrev pub set_by : List Account → ℕ → ℕ → List Account
set_by accounts number flag = cond (flag == 1) (opened accounts number) (closed accounts number)

-- what setting an account answers and leaves
abbrev pub Sets : {A : Type 0} → ℕ → ℕ → AccountTable → Result A Refusal → AccountTable → Type 0
Sets number flag t r t' = Answered (against_setting (listed t) number flag) r t t' (λ _. listed t' ≡ set_by (listed t) number flag)

-- the first reason against a call
abbrev pub against : List Account → Call → Option Refusal
against accounts (account number flag) = against_setting accounts number.0 flag

-- the accounts after a call that is carried out
abbrev pub after : List Account → Call → List Account
after accounts (account number flag) = set_by accounts number.0 flag

-- what a call answers and leaves: it is carried out if nothing is against it, and else refused for the first reason, with the whole table as it was
abbrev pub Carries : {A : Type 0} → Call → AccountTable → Result A Refusal → AccountTable → Type 0
Carries call t r t' = Answered (against (listed t) call) r t t' (λ _. listed t' ≡ after (listed t) call)
