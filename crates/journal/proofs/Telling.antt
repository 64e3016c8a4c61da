-- The units and the rates after a call are those that the page with its line tells of.
use Rattle.std.proofs.Common.{◌≡◌, ℕ, zero, suc, ◌<◌, eqb, List, [], ◌∷◌, length, get_or, set, replicate, Some, None, Ok, Option, refl, ap, get_or-set_other, get_or-set_same, arith}
use Rattle.std.proofs.lemmas.Bool.{cases_Bool, eqb-true, eqb-false}
use Rattle.std.specs.Option.{option_map}
use Rattle.measures.specs.declared.measure.Rate.{Rate}
use Rattle.tariff.specs.Rates.{no_rate}
use Rattle.tariff.specs.declared.terms.Terms.{Terms}
use Rattle.units.specs.declared.unit.Unit.{Unit as Enrolled}
use Rattle.journal.specs.Page.{UnitCall, of_unit, basic, noted, Page}
use Rattle.journal.specs.Told.{after_call, terms_after, terms_on, standing_after, standing_on, waiting_after, waiting_on, Told, shown, unit_on, rate_on}

-- one thing made of another that may be missing, and a second of the first
pub mapped_mapped : {A B C : Type 0} (f : A → B) (g : B → C) (o : Option A) → option_map g (option_map f o) ≡ option_map (λ x. g (f x)) o
mapped_mapped f g None = refl
mapped_mapped f g (Some x) = refl

-- where the default stands in all places, it is read at each
pub get_or-replicate_default : {A : Type 0} (count n : ℕ) (d : A) → get_or (replicate count d) n d ≡ d
get_or-replicate_default zero n d = refl
get_or-replicate_default (suc count) zero d = refl
get_or-replicate_default (suc count) (suc n) d = get_or-replicate_default count n d

-- a thing that may be missing, changed where it stands
pub get_or_set_mapped : {A : Type 0} (f : A → A) (xs : List (Option A)) (n : ℕ) → get_or (set xs n (option_map f (get_or xs n None))) n None ≡ option_map f (get_or xs n None)
get_or_set_mapped f [] n = refl
get_or_set_mapped f (x ∷ xs) zero = refl
get_or_set_mapped f (x ∷ xs) (suc n) = get_or_set_mapped f xs n

-- what changes a unit changes what it shows
pub changed_shown : (change : Enrolled → Enrolled) (change' : Told → Told) → ((u : Enrolled) → shown (change u) ≡ change' (shown u)) → (o : Option Enrolled) → option_map shown (option_map change o) ≡ option_map change' (option_map shown o)
changed_shown change change' same None = refl
changed_shown change change' same (Some u) = ap Some (same u)

-- a unit after a call on it, if there is one, by what the page before tells
abbrev pub unit_after : Option UnitCall → Page → ℕ → Option Told
unit_after call page unit =
    option_map (λ (terms : Terms). record { terms = terms; standing = after_call call standing_after (standing_on page unit); waiting = after_call call waiting_after (waiting_on page unit) })
    (after_call call terms_after (terms_on page unit))

-- where the unit of the call is what the call makes of it, and the others are as they were, all are as the page tells
pub units_told : (xs ys : List (Option Enrolled)) (y : Option Enrolled) (page : Page) (n : ℕ) (call : UnitCall)
    → ys ≡ set xs n y → ((unit : ℕ) → option_map shown (get_or xs unit None) ≡ unit_on page unit) → option_map shown (get_or (set xs n y) n None) ≡ unit_after (Some call) page n
    → (unit : ℕ) → option_map shown (get_or ys unit None) ≡ unit_on (noted (of_unit n call) (Ok tt) ∷ page) unit
units_told xs ys y page n call is before here unit =
    grind (arith, is, cases_Bool (eqb unit n), eqb-true unit n, eqb-false unit n, get_or-set_other xs n unit y None, here, before unit)

-- the same for the rates of the classes
pub rates_told : (xs ys : List Rate) (page : Page) (class rate : ℕ)
    → ys ≡ set xs class (record { 0 = rate }) → class < length xs → ((k : ℕ) → (get_or xs k no_rate).0 ≡ rate_on page k)
    → (k : ℕ) → (get_or ys k no_rate).0 ≡ rate_on (noted (basic class rate) (Ok tt) ∷ page) k
rates_told xs ys page class rate is within before k =
    let new : Rate = record { 0 = rate } in
    grind (arith, is, cases_Bool (eqb k class), eqb-true k class, eqb-false k class, get_or-set_same xs class new no_rate within, get_or-set_other xs class k new no_rate, before k)
