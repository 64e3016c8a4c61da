-- What is known of every listed account stays known when one of them is written to.
use Rattle.std.proofs.Common.{◌≡◌, ℕ, ◌<◌, ◌≤◌, true, List, length, length-set, get_or, set, drop, sym, subst, arith}
use Rattle.std.specs.List.{AllPass, refill}
use Rattle.std.proofs.lemmas.List.{take_at}
use Rattle.std.proofs.lemmas.List.Elements.{All-set}
use Rattle.std.proofs.lemmas.List.Sums.{AllPass-from_list_all, list_all-from_AllPass}
use Rattle.ends.specs.declared.account.Account.{Account}
use Rattle.ends.specs.declared.table.AccountTable.{AccountTable}
use Rattle.ends.specs.Accounts.{reach, raised, sound, all_sound}
use Rattle.ends.specs.Places.{no_account}
use Rattle.ends.specs.Tables.{listed}

-- a slice that is written to keeps its length, so all of it is written back
refill_set : (xs : List Account) (i : ℕ) (b : Account) → refill (length xs) xs (set xs i b) ≡ set xs i b
refill_set xs i b = take_at (set xs i b) (drop (length (set xs i b)) xs) (length xs) (length-set xs i b)

-- the accounts stay sound if one is written, through the slice ys that shows them, that is sound if the one in its place was
pub sound_write : (t : AccountTable) (ys : List Account) (i : ℕ) (b : Account) → ys ≡ listed t → i < length (listed t) → (sound (get_or ys i no_account) ≡ true → sound b ≡ true)
    → all_sound (refill (length (listed t)) (listed t) (set ys i b)) ≡ true
sound_write t ys i b shown within stays =
    let xs = listed t in
    let all : AllPass sound xs = AllPass-from_list_all sound xs t.bounded in
    let holds : sound b ≡ true = stays (subst (λ zs. sound (get_or zs i no_account) ≡ true) (sym shown) (all i no_account within)) in
    let kept : all_sound (set xs i b) ≡ true = list_all-from_AllPass sound (set xs i b) (All-set (λ a. sound a ≡ true) xs i b holds all) in
    subst (λ zs. all_sound (refill (length xs) xs (set zs i b)) ≡ true) (sym shown) (subst (λ zs. all_sound zs ≡ true) (sym (refill_set xs i b)) kept)

-- an account that takes cents within its reach keeps its credit within the bound
pub sound_raised : (a : Account) (cents : ℕ) → sound a ≡ true → cents ≤ reach a → sound (raised cents a) ≡ true
sound_raised a cents holds within = grind arith
