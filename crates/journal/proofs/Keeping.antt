-- Every world that is reached along a page keeps the page.
use Rattle.std.proofs.Common.{◌≡◌, ℕ, ◌<◌, List, [], ◌∷◌, length, get_or, set, Some, None, Ok, Err, Option, Result, sym, refl, ap, ◌∙◌, subst, arith, get_or-set_same}
use Rattle.std.proofs.lemmas.Int.{ints}
use Rattle.std.proofs.lemmas.List.{take_at}
use Rattle.std.specs.Option.{option_map}
use Rattle.measures.specs.declared.number.Day.{Day}
use Rattle.measures.specs.declared.refusal.Refusal.{Refusal}
use Rattle.forms.specs.declared.line.FormLine.{FormLine}
use Rattle.tariff.specs.Rates.{rate_of, no_rate}
use Rattle.tariff.specs.Terms.{terms_in}
use Rattle.units.specs.Unit.{newly_enrolled, noticed, with_waiting}
use Rattle.units.specs.Units.{unit_of}
use Rattle.units.specs.Waiting.{WaitingForm, as_filed, Shows}
use Rattle.units.specs.declared.unit.Unit.{Unit as Enrolled}
use Rattle.ledger.specs.Calls.{Opened, OnUnits}
use Rattle.ledger.specs.declared.book.Book.{Book}
use Rattle.journal.specs.Page.{UnitCall, enrol, notice, form, enter, Call, of_unit, basic, of_recovery, AnswerTo, noted, Page}
use Rattle.journal.specs.Told.{Told, day_on, rate_on, form_shown, shown, standing_after, terms_on, unit_on}
use Rattle.journal.specs.Worlds.{Does, Ends, CreditedAs, Reached, opening, called, between}
use Rattle.journal.specs.Law.{Kept, WaitsAs}
use Rattle.journal.proofs.Telling.{mapped_mapped, get_or-replicate_default, get_or_set_mapped, changed_shown, unit_after, units_told, rates_told}
use Rattle.journal.proofs.Summing.{Sums, sums_opened, sums_still, sums_entered}

-- what is kept, by the parts of the book
record Held (page : Page) (b : Book) : Type 0 where
  pub sums : Sums page b.recovery
  pub day : b.day.0 ≡ day_on page
  pub rates : (class : ℕ) → rate_of b.rates class ≡ rate_on page class
  pub units : (unit : ℕ) → option_map shown (unit_of b.units unit) ≡ unit_on page unit

held_opened : (b : Book) → Opened b → Held [] b
held_opened b open' = record {
  sums = sums_opened b.recovery open'.recovery;
  day = open'.day;
  rates = λ class. grind (arith, open'.rates, get_or-replicate_default 8 class no_rate);
  units = λ unit. grind (arith, open'.units, get_or-replicate_default {A = Option Enrolled} 32 unit None);
}

-- a refused call leaves the book as it was
refused : (call : Call) (refusal : Refusal) (b b' : Book) → Does call b (Err refusal) b' → b' ≡ b
refused (of_unit unit (enrol given)) refusal b b' does = does.1
refused (of_unit unit (notice number day)) refusal b b' does = does.1
refused (of_unit unit (form day lines)) refusal b b' does = does.1
refused (basic class rate) refusal b b' does = does.1
refused (of_recovery (enter kind cents)) refusal b b' does = does.1

held_refused : (call : Call) (refusal : Refusal) (page : Page) (b b' : Book) → b' ≡ b → Held page b → Held (noted call (Err refusal) ∷ page) b'
held_refused call refusal page b b' same held = record {
  sums = sums_still (noted call (Err refusal)) page b.recovery b'.recovery refl (grind arith) held.sums;
  day = grind (arith, held.day);
  rates = λ class. grind (arith, held.rates class);
  units = λ unit. grind (arith, held.units unit);
}

-- an accepted call on a unit: the unit is what the call makes of it
held_unit : (page : Page) (n : ℕ) (call : UnitCall) (y : Option Enrolled) (b b' : Book) (today : _) → OnUnits (set b.units.units n y) today b b'
    → today.0 ≡ day_on (noted (of_unit n call) (Ok tt) ∷ page) → option_map shown (get_or (set b.units.units n y) n None) ≡ unit_after (Some call) page n
    → Held page b → Held (noted (of_unit n call) (Ok tt) ∷ page) b'
held_unit page n call y b b' today on dated here held = record {
  sums = sums_still (noted (of_unit n call) (Ok tt)) page b.recovery b'.recovery refl on.recovery held.sums;
  day = grind (arith, on.day, dated);
  rates = λ class. grind (arith, on.rates, held.rates class);
  units = units_told b.units.units b'.units.units y page n call on.units held.units here;
}

-- what a call changes at its unit, wherever the unit stands, is what the page tells
changed_here : (page : Page) (n : ℕ) (call : UnitCall) (change : Enrolled → Enrolled) (change' : Told → Told) (xs : List (Option Enrolled))
    → ((u : Enrolled) → shown (change u) ≡ change' (shown u)) → option_map shown (get_or xs n None) ≡ unit_on page n
    → option_map change' (unit_on page n) ≡ unit_after (Some call) page n → option_map shown (get_or (set xs n (option_map change (get_or xs n None))) n None) ≡ unit_after (Some call) page n
changed_here page n call change change' xs same before is =
    grind (arith, get_or_set_mapped change xs n, changed_shown change change' same (get_or xs n None), before, is)

-- what a notice and a form change of what a unit shows
abbrev notice_told : ℕ → Day → Told → Told
notice_told number day u = record u { standing = standing_after (notice number day) u.standing }

abbrev form_told : Day → List FormLine → Told → Told
form_told day lines u = record u { waiting = Some (record { day = day; lines = lines }) }

-- the lines of a filed form are those that were given
filed_shown : (day : Day) (lines : List FormLine) (u : Enrolled) → shown (with_waiting day lines u) ≡ form_told day lines (shown u)
filed_shown day lines u = ap (λ (ls : List FormLine). form_told day ls (shown u)) (take_at lines _ (length lines) refl)

held_accepted : (call : Call) (answer : AnswerTo call) (page : Page) (b b' : Book) → Does call b (Ok answer) b' → Held page b → Held (noted call (Ok answer) ∷ page) b'
held_accepted (of_unit n (enrol given)) answer page b b' does held =
    let within : n < length b.units.units = grind (arith, does.0, b.units.slots) in
    held_unit page n (enrol given) _ b b' b.day does.1 held.day
    (grind (arith, get_or-set_same b.units.units n (option_map newly_enrolled (terms_in given)) None within, mapped_mapped newly_enrolled shown (terms_in given))) held
held_accepted (of_unit n (notice number day)) answer page b b' does held =
    held_unit page n (notice number day) _ b b' b.day does.1 held.day
    (changed_here page n (notice number day) (noticed number day) (notice_told number day) b.units.units (λ u. refl) (held.units n) (mapped_mapped _ (notice_told number day) (terms_on page n))) held
held_accepted (of_unit n (form day lines)) answer page b b' does held =
    held_unit page n (form day lines) _ b b' day does.1 refl
    (changed_here page n (form day lines) (with_waiting day lines) (form_told day lines) b.units.units (filed_shown day lines) (held.units n) (mapped_mapped _ (form_told day lines) (terms_on page n))) held
held_accepted (basic class rate) answer page b b' does held =
    let on = does.1 in
    let within : class < length b.rates.rates = grind (arith, does.0, b.rates.slots) in
    record {
      sums = sums_still (noted (basic class rate) (Ok tt)) page b.recovery b'.recovery refl on.recovery held.sums;
      day = grind (arith, on.day, held.day);
      rates = rates_told b.rates.rates b'.rates.rates page class rate on.rates within held.rates;
      units = λ unit. grind (arith, on.units, held.units unit);
    }
held_accepted (of_recovery (enter kind cents)) answer page b b' does held =
    let on = does.1 in
    record {
      sums = sums_entered page b.recovery b'.recovery kind cents on.recovery held.sums;
      day = grind (arith, on.day, held.day);
      rates = λ class. grind (arith, on.rates, held.rates class);
      units = λ unit. grind (arith, on.units, held.units unit);
    }

held_called : (call : Call) (answer : Result (AnswerTo call) Refusal) (page : Page) (b b' : Book) → Does call b answer b' → Held page b → Held (noted call answer ∷ page) b'
held_called call (Ok answer) page b b' does held = held_accepted call answer page b b' does held
held_called call (Err refusal) page b b' does held = held_refused call refusal page b b' (refused call refusal b b' does) held

held_reached : (start : ℕ → ℕ → ℕ) (page : Page) (b : Book) (ends : Ends) → Reached start page b ends → Held page b
held_reached start page b ends (opening _ _ open' credits) = held_opened b open'
held_reached start page b ends (called call answer before b₀ _ _ reached does) = held_called call answer before b₀ b does (held_reached start before b₀ ends reached)
held_reached start page b ends (between _ _ ends₀ _ reached same) = held_reached start page b ends₀ reached

-- no call so far touches a credit
credits_kept : (start : ℕ → ℕ → ℕ) (page : Page) (b : Book) (ends : Ends) → Reached start page b ends → CreditedAs start ends
credits_kept start page b ends (opening _ _ open' credits) = credits
credits_kept start page b ends (called call answer before b₀ _ _ reached does) = credits_kept start before b₀ ends reached
credits_kept start page b ends (between _ _ ends₀ _ reached same) = λ end account. same end account ∙ credits_kept start page b ends₀ reached end account

-- what is shown of a unit's waiting form is what the page tells
waits_as : (unit : Option Enrolled) (answer : Result (Option WaitingForm) Refusal) → Shows unit answer → WaitsAs (option_map shown unit) answer
waits_as (Some u) (Ok waiting) says = sym (mapped_mapped as_filed form_shown waiting) ∙ ap (option_map form_shown) says
waits_as (Some u) (Err refusal) says = says
waits_as None (Ok waiting) says = says
waits_as None (Err refusal) says = says

pub lifelong : (start : ℕ → ℕ → ℕ) (page : Page) (b : Book) (ends : Ends) → Reached start page b ends → Kept start page b ends
lifelong start page b ends reached =
    let held = held_reached start page b ends reached in
    let sums = held.sums in
    record {
      costs_entered = sums.entered;
      costs_not_in_balance = sums.waiting;
      market_revenue_entered = sums.revenue;
      balance = λ revenue counts. omega (arith, ints, sums.all_wait, sums.revenue, counts);
      whole = omega (arith, ints, sums.all_wait);
      day = held.day;
      rates = held.rates;
      units = held.units;
      waiting_form = λ unit answer shows. subst (λ told. WaitsAs told answer) (held.units unit) (waits_as (unit_of b.units unit) answer shows);
      credits = credits_kept start page b ends reached;
    }
