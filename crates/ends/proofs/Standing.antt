-- Where an account stands in a list.
use Rattle.std.proofs.Common.{◌≡◌, ℕ, ◌<◌, ◌≤◌, ltb, List, length, get_or, Some, None, refl, ◌∙◌, arith, rules}
use Rattle.std.specs.List.{position}
use Rattle.std.proofs.lemmas.Bool.{cond_both, ltb-true, ltb-false}
use Rattle.std.proofs.lemmas.List.Folds.{find_at}
use Rattle.std.proofs.lemmas.List.Sums.{passes_at_first, AllPass-from_list_all}
use Rattle.std.proofs.lemmas.Option.{slice_get-get_or, slice_get_past}
use Rattle.ends.specs.declared.account.Account.{Account}
use Rattle.ends.specs.declared.table.AccountTable.{AccountTable}
use Rattle.ends.specs.Accounts.{found, place, has_number}
use Rattle.ends.specs.Places.{no_account, StandsAt, Stands}
use Rattle.ends.specs.Tables.{listed}

-- what is found is what stands at the place, if that lies within the list
found_within : (xs : List Account) (n : ℕ) → place xs n < length xs → found xs n ≡ Some (get_or xs (place xs n) no_account)
found_within xs n within = find_at (has_number n) xs ∙ slice_get-get_or xs (place xs n) no_account within

-- nothing is found if the place is past the end
found_past : (xs : List Account) (n : ℕ) → length xs ≤ place xs n → found xs n ≡ None
found_past xs n past = find_at (has_number n) xs ∙ slice_get_past xs (place xs n) past

-- an account that stands at its place
stands_at_place : (t : AccountTable) (n : ℕ) → place (listed t) n < length (listed t) → StandsAt t n (place (listed t) n)
stands_at_place t n within = record {
  within = within;
  first = refl;
  there = found_within (listed t) n within;
  named = grind (arith, passes_at_first (has_number n) (listed t) no_account);
  holds = search (rules, AllPass-from_list_all);
}

-- the first place at which an account of that number is met is where it stands
pub stands_by_position : (t : AccountTable) (n : ℕ) → Stands t n (position (has_number n) (listed t))
stands_by_position t n =
    cond_both (ltb (place (listed t) n) (length (listed t))) (Some (place (listed t) n)) None (Stands t n)
    (λ h. stands_at_place t n (ltb-true (place (listed t) n) (length (listed t)) h))
    (λ h. found_past (listed t) n (ltb-false (place (listed t) n) (length (listed t)) h))
