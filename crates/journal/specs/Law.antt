-- The law over the whole life of a book.
use Rattle.std.specs.Prelude.{◌≡◌, ℕ, pos, ◌+ℤ◌, neg_ℤ, Some, None, Ok, Err, Option, Result}
use Rattle.std.specs.Option.{option_map}
use Rattle.measures.specs.declared.refusal.Refusal.{Refusal}
use Rattle.measures.specs.declared.refusal.Refusal.TheVariants.{Unlisted}
use Rattle.forms.specs.Rows.{lines_of}
use Rattle.tariff.specs.Rates.{rate_of}
use Rattle.units.specs.Units.{unit_of}
use Rattle.units.specs.Waiting.{WaitingForm}
use Rattle.ledger.specs.Queries as query
use Rattle.ledger.specs.declared.book.Book.{Book}
use Rattle.journal.specs.Page.{Page}
use Rattle.journal.specs.Counts.{costs, costs_waiting, market_revenue, Counts}
use Rattle.journal.specs.Told.{Told, day_on, rate_on, shown, unit_on}
use Rattle.journal.specs.Worlds.{Ends, CreditedAs, Reached}

-- what is answered of a unit's waiting form, by what the page tells of the unit
abbrev pub WaitsAs : Option Told → Result (Option WaitingForm) Refusal → Type 0
WaitsAs (Some unit) (Ok answer) = option_map (λ form. record { day = form.day; lines = lines_of form.form.row }) answer ≡ unit.waiting
WaitsAs (Some unit) (Err refusal) = ⊥
WaitsAs None (Ok answer) = ⊥
WaitsAs None (Err refusal) = refusal ≡ Unlisted

-- what holds along a page: the book answers the page's counts and shows what the page tells, and the ends have their credits
pub record Kept (start : ℕ → ℕ → ℕ) (page : Page) (b : Book) (ends : Ends) : Type 0 where
  -- each query of a sum answers the page's count
  pub costs_entered : Counts page costs (query.costs_entered b)
  pub costs_not_in_balance : Counts page costs_waiting (query.costs_not_in_balance b)
  pub market_revenue_entered : Counts page market_revenue (query.market_revenue b)
  -- the balance is minus the page's market revenue: costs join it only when they are put in force
  pub balance : (revenue : ℕ) → Counts page market_revenue revenue → query.balance b ≡ neg_ℤ (pos revenue)
  -- no cent is made or lost: costs = market revenue + balance + costs not yet in the balance
  pub whole : pos (query.costs_entered b) ≡ (pos (query.market_revenue b) +ℤ query.balance b) +ℤ pos (query.costs_not_in_balance b)
  -- the day, the rates and the units are those that the page tells of
  pub day : b.day.0 ≡ day_on page
  pub rates : (class : ℕ) → rate_of b.rates class ≡ rate_on page class
  pub units : (unit : ℕ) → option_map shown (unit_of b.units unit) ≡ unit_on page unit
  -- the query of a unit's waiting form answers what the page tells: refused if the unit is not enrolled, and else its day and lines, if one waits
  pub waiting_form : (unit : ℕ) (answer : Result (Option WaitingForm) Refusal) → query.Waits b unit answer → WaitsAs (unit_on page unit) answer
  -- no call so far posts to an end: each credit is what it was at the start
  pub credits : CreditedAs start ends

-- along every page, from any credits at the start, whatever world is reached keeps the page
abbrev pub Lifelong : Type 0
Lifelong = (start : ℕ → ℕ → ℕ) (page : Page) (b : Book) (ends : Ends) → Reached start page b ends → Kept start page b ends
