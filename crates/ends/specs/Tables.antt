-- The account table, by the list of its accounts.
use Rattle.std.specs.Prelude.{◌≡◌, ℕ, Bool, true, false, List, Result}
use Rattle.measures.specs.declared.refusal.Refusal.{Refusal}
use Rattle.ends.specs.declared.account.Account.{Account}
use Rattle.ends.specs.declared.table.AccountTable.{AccountTable}
use Rattle.ends.specs.Accounts.{reach_of, opened, closed, posted}
use Rattle.ends.specs.Postings.{takes}
use Rattle.measures.specs.Answers.{Answered}
use Rattle.ends.specs.Refusals.{against_opening, against_closing}

-- the listed accounts, open and closed, in the order of first opening: this is the whole table
abbrev pub listed : AccountTable → List Account
listed t = t.accounts.items

-- what opening account n answers and leaves: a refusal leaves the whole table as it was
abbrev pub Opens : {A : Type 0} → AccountTable → ℕ → Result A Refusal → AccountTable → Type 0
Opens t n r t' = Answered (against_opening (listed t) n) r t t' (λ _. listed t' ≡ opened (listed t) n)

-- what closing account n answers and leaves: a refusal leaves the whole table as it was
abbrev pub Closes : {A : Type 0} → AccountTable → ℕ → Result A Refusal → AccountTable → Type 0
Closes t n r t' = Answered (against_closing (listed t) n) r t t' (λ _. listed t' ≡ closed (listed t) n)

-- what posting cents to account n answers and leaves: a posting that is not taken leaves the whole table as it was
abbrev pub Posts : AccountTable → ℕ → ℕ → Bool → AccountTable → Type 0
Posts t n cents true t' = (takes (reach_of (listed t) n) cents ≡ true) × (listed t' ≡ posted (listed t) n cents)
Posts t n cents false t' = (takes (reach_of (listed t) n) cents ≡ false) × (t' ≡ t)
