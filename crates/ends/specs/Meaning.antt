-- What is found in a list after one account is replaced, and so what a posting to the table means.
-- These are lemmas: they stand here because the account table's impl names them.
use Rattle.std.specs.Prelude.{◌≡◌, ℕ, ◌+◌, ◌<◌, Bool, true, false, cond, List, [], ◌∷◌, length, Some, None, Option, ◌==◌, refl, slice_get, slice_index_or}
use Rattle.std.proofs.Common.{arith, sym, ap, ◌∙◌}
use Rattle.std.proofs.lemmas.Bool.{true≢false}
use Rattle.std.proofs.lemmas.List.Folds.{find_at, find-set, find_past}
use Rattle.std.proofs.lemmas.List.Sums.{passes_at_first}
use Rattle.std.proofs.lemmas.Option.{slice_get_within, get_or_from_slice_get}
use Rattle.ends.specs.declared.account.Account.{Account}
use Rattle.ends.specs.declared.table.AccountTable.{AccountTable}
use Rattle.ends.specs.Accounts.{has_number, found, place, replaced, all_sound, credit_of, reach, reach_of, posted, raised}
use Rattle.measures.specs.Measures.{is_account}
use Rattle.ends.specs.Postings.{Posting, takes}
use Rattle.ends.specs.Tables.{Posts, listed}

-- the credit of what is found
abbrev pub credit_in : Option Account → ℕ
credit_in (Some a) = a.credit.0
credit_in None = 0

-- the reach of what is found
abbrev reach_in : Option Account → ℕ
reach_in (Some a) = reach a
reach_in None = 0

-- what is found stands at the place of its number
found_there : (xs : List Account) (n : ℕ) (a : Account) → found xs n ≡ Some a → (place xs n < length xs) × (slice_index_or xs (place xs n) a ≡ a)
found_there xs n a is =
    let there : slice_get xs (place xs n) ≡ Some a = sym (find_at (has_number n) xs) ∙ is in
    (slice_get_within xs (place xs n) a there, get_or_from_slice_get xs (place xs n) a a there)

-- what is found has the number that it was looked for by
pub found_named : (xs : List Account) (n : ℕ) (a : Account) → found xs n ≡ Some a → a.number.0 ≡ n
found_named xs n a is =
    let there = found_there xs n a is in
    grind (arith, passes_at_first (has_number n) xs a)

-- nothing is found by a number that is out of range
pub found_outside : (xs : List Account) (n : ℕ) → all_sound xs ≡ true → is_account n ≡ false → found xs n ≡ None
found_outside [] n h out = refl
found_outside (x ∷ rest) n h out = grind (arith, found_outside rest n)

-- after a replacement the new account is found by its number, and by any other number what was found before
pub found_replaced : (xs : List Account) (n m : ℕ) (a b : Account) → found xs n ≡ Some a → b.number.0 ≡ n → found (replaced xs n b) m ≡ cond (m == n) (Some b) (found xs m)
found_replaced xs n m a b is same =
    let there = found_there xs n a is in
    let named = found_named xs n a is in
    grind (arith, find-set (has_number n) xs (place xs n) b, find_past (has_number m) xs (place xs n) b a)

-- the credits after a posting that a listed account takes
raised_credits : (xs : List Account) (n cents : ℕ) (a : Account) → found xs n ≡ Some a → (m : ℕ) → credit_of (replaced xs n (raised cents a)) m ≡ credit_of xs m + cond (m == n) cents 0
raised_credits xs n cents a is m = grind (arith, found_replaced xs n m a (raised cents a), found_named xs n a)

-- a posting that is taken raises that credit by its cents, and no other
pub posted_credits : (xs : List Account) (n cents : ℕ) → takes (reach_of xs n) cents ≡ true → (m : ℕ) → credit_of (posted xs n cents) m ≡ credit_of xs m + cond (m == n) cents 0
posted_credits xs n cents = by_found (found xs n) refl
  where
    by_found : (o : Option Account) → found xs n ≡ o → takes (reach_in o) cents ≡ true → (m : ℕ) → credit_of (elim o [ Some a ↦ replaced xs n (raised cents a) | None ↦ xs ]) m ≡ credit_of xs m + cond (m == n) cents 0
    by_found (Some a) is h m = raised_credits xs n cents a is m
    by_found None is h m = grind arith

-- a number that is out of range has no credit and no reach
pub none_outside : (xs : List Account) (n : ℕ) → all_sound xs ≡ true → is_account n ≡ false → (credit_of xs n ≡ 0) × (reach_of xs n ≡ 0)
none_outside xs n h out = (ap credit_in (found_outside xs n h out), ap reach_in (found_outside xs n h out))

-- however the table goes on at a posting, this is what a posting means
pub posts_mean : (t : AccountTable) (n cents : ℕ) (taken : Bool) (t' : AccountTable) → Posts t n cents taken t' → Posting (credit_of (listed t)) (reach_of (listed t)) n cents taken (credit_of (listed t')) (reach_of (listed t'))
posts_mean t n cents true t' posts = record {
  answer = sym posts.0;
  credits = λ m. ap (λ xs. credit_of xs m) posts.1 ∙ posted_credits (listed t) n cents posts.0 m;
  reaches = λ h. absurd (true≢false h);
}
posts_mean t n cents false t' posts = record {
  answer = sym posts.0;
  credits = λ m. ap (λ (s : AccountTable). credit_of (listed s) m) posts.1 ∙ omega arith;
  reaches = λ h m. ap (λ (s : AccountTable). reach_of (listed s) m) posts.1;
}
