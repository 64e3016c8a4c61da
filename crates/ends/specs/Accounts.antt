-- A list of accounts: what it shows of each account number, and what opening, closing and posting make of it.
use Rattle.std.specs.Prelude.{ℕ, ◌+◌, ◌-◌, min, Bool, true, false, cond, ◌&&◌, List, [], ◌∷◌, ◌++◌, is_some, Some, None, Option, ◌==◌, nat_le, slice_set}
use Rattle.std.specs.List.{find, list_all, position_or_len}
use Rattle.ends.specs.declared.account.Account.{Account}
use Rattle.ends.specs.Limits.{most_credit, most_at_once}
use Rattle.measures.specs.Measures.{is_account}

-- whether an account has this number
abbrev pub has_number : ℕ → Account → Bool
has_number n a = a.number.0 == n

-- the account of a number, if it is listed
abbrev pub found : List Account → ℕ → Option Account
found accounts n = find (has_number n) accounts

-- how many accounts stand before the one of that number; all of them, if it is not listed
abbrev pub place : List Account → ℕ → ℕ
place accounts n = position_or_len (has_number n) accounts

-- whether the account of a number is listed
abbrev pub is_listed : List Account → ℕ → Bool
is_listed accounts n = is_some (found accounts n)

-- the credit of an account number: none if it is not listed
abbrev pub credit_of : List Account → ℕ → ℕ
credit_of accounts n = elim (found accounts n) [ Some a ↦ a.credit.0 | None ↦ 0 ]

-- the most that an account takes in one posting: 10^10 cents, and no more than 10^12 of credit; none if it is closed
abbrev pub reach : Account → ℕ
reach a = cond a.«open» (min most_at_once (most_credit - a.credit.0)) 0

-- the most that an account number takes in one posting: none if it is not listed
abbrev pub reach_of : List Account → ℕ → ℕ
reach_of accounts n = elim (found accounts n) [ Some a ↦ reach a | None ↦ 0 ]

-- the accounts, with another in the place of the one of that number
abbrev pub replaced : List Account → ℕ → Account → List Account
replaced accounts n b = slice_set accounts (place accounts n) b

-- the accounts, with the one of that number changed
abbrev pub changed : List Account → ℕ → (Account → Account) → List Account
changed accounts n change = elim (found accounts n) [ Some a ↦ replaced accounts n (change a) | None ↦ accounts ]

-- an account at its first opening
abbrev pub fresh : ℕ → Account
fresh n = record { number = record { 0 = n }; credit = record { 0 = 0 }; «open» = true }

-- the account, open or closed, with its credit
abbrev pub with_open : Bool → Account → Account
with_open b a = record { number = a.number; credit = a.credit; «open» = b }

-- the account with so many cents more
abbrev pub raised : ℕ → Account → Account
raised cents a = record { number = a.number; credit = record { 0 = a.credit.0 + cents }; «open» = a.«open» }

-- the accounts after account n is opened: one that is listed keeps its place and its credit
abbrev pub opened : List Account → ℕ → List Account
opened accounts n = cond (is_listed accounts n) (changed accounts n (with_open true)) (accounts ++ (fresh n ∷ []))

-- the accounts after account n is closed
abbrev pub closed : List Account → ℕ → List Account
closed accounts n = changed accounts n (with_open false)

-- the accounts after so many cents are posted to account n
abbrev pub posted : List Account → ℕ → ℕ → List Account
posted accounts n cents = changed accounts n (raised cents)

-- whether an account has an account number, and at most 10^12 cents of credit
abbrev pub sound : Account → Bool
sound a = is_account a.number.0 && nat_le a.credit.0 most_credit

-- whether every account of the list is sound
abbrev pub all_sound : List Account → Bool
all_sound accounts = list_all sound accounts
