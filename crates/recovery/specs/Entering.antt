-- What entering costs and market revenue does, and the balance.
use Rattle.std.specs.Prelude.{◌≡◌, ℕ, ◌+◌, ◌-◌, cond, ◌&&◌, ◌||◌, ℤ, pos, ◌-ℤ◌, Option, Result, nat_le}
use Rattle.measures.specs.Answers.{unless, Answered}
use Rattle.measures.specs.declared.refusal.Refusal.{Refusal}
use Rattle.measures.specs.declared.refusal.Refusal.TheVariants.{OutOfRange}
use Rattle.recovery.specs.Kinds.{is_costs, is_revenue}
use Rattle.recovery.specs.Limits.{most_at_once, against_adding}
use Rattle.recovery.specs.declared.part.Recovery.{Recovery}

-- all that was ever entered of a kind
abbrev pub entered_of : Recovery → ℕ → ℕ
entered_of s kind = cond (is_costs kind) s.costs.cents.0 s.revenue.cents.0

-- the first reason against entering: no such kind or too much at once, or a total that would pass its limit
abbrev pub against_entering : Recovery → ℕ → ℕ → Option Refusal
against_entering s kind cents =
    unless ((is_costs kind || is_revenue kind) && nat_le cents most_at_once) OutOfRange (
    against_adding (entered_of s kind) cents)

-- costs are added to all costs and to those that wait, market revenue to market revenue
pub record Entered (s : Recovery) (kind cents : ℕ) (s' : Recovery) : Type 0 where
  pub costs : s'.costs.cents.0 ≡ s.costs.cents.0 + cond (is_costs kind) cents 0
  pub waiting : s'.waiting.0 ≡ s.waiting.0 + cond (is_costs kind) cents 0
  pub revenue : s'.revenue.cents.0 ≡ s.revenue.cents.0 + cond (is_revenue kind) cents 0

-- what entering answers and leaves
abbrev pub Enters : {A : Type 0} → Recovery → ℕ → ℕ → Result A Refusal → Recovery → Type 0
Enters s kind cents r s' = Answered (against_entering s kind cents) r s s' (λ _. Entered s kind cents s')

-- nothing was entered yet
pub record Unentered (s : Recovery) : Type 0 where
  pub costs : s.costs.cents.0 ≡ 0
  pub waiting : s.waiting.0 ≡ 0
  pub revenue : s.revenue.cents.0 ≡ 0

-- the balance: the costs that have joined it, less market revenue
abbrev pub balance_of : Recovery → ℤ
balance_of s = pos (s.costs.cents.0 - s.waiting.0) -ℤ pos s.revenue.cents.0
