-- Opening or closing an account alters no credit.
use Rattle.std.proofs.Common.{◌≡◌, ℕ, Bool, true, false, List, [], ◌∷◌, ◌++◌, Some, None, Option, refl, arith}
use Rattle.std.proofs.lemmas.List.Folds.{find-append}
use Rattle.ends.specs.declared.account.Account.{Account}
use Rattle.ends.specs.Accounts.{has_number, found, replaced, credit_of, with_open, fresh, opened, closed, changed}
use Rattle.ends.specs.Meaning.{found_named, found_replaced}

pub changed_credits : (xs : List Account) (n : ℕ) (b : Bool) (m : ℕ) → credit_of (changed xs n (with_open b)) m ≡ credit_of xs m
changed_credits xs n b m = by_found (found xs n) refl
  where
    by_found : (o : Option Account) → found xs n ≡ o → credit_of (elim o [ Some a ↦ replaced xs n (with_open b a) | None ↦ xs ]) m ≡ credit_of xs m
    by_found None is = refl
    by_found (Some a) is = grind (arith, found_replaced xs n m a (with_open b a), found_named xs n a)

-- a new account has no credit
listed_credits : (xs : List Account) (n m : ℕ) → credit_of (xs ++ (fresh n ∷ [])) m ≡ credit_of xs m
listed_credits xs n m = grind (arith, find-append (has_number m) xs (fresh n ∷ []))

pub opened_credits : (xs : List Account) (n m : ℕ) → credit_of (opened xs n) m ≡ credit_of xs m
opened_credits xs n m = grind (arith, changed_credits xs n true m, listed_credits xs n m)

pub closed_credits : (xs : List Account) (n m : ℕ) → credit_of (closed xs n) m ≡ credit_of xs m
closed_credits xs n m = changed_credits xs n false m
