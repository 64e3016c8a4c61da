-- What the number of a kind stands for.
use Rattle.std.specs.Prelude.{ℕ, Bool, cond, Some, None, Option, ◌==◌}
use Rattle.recovery.specs.declared.entry.Entry.{Entry}
use Rattle.recovery.specs.declared.entry.Entry.TheVariants.{Costs, MarketRevenue}

-- what is entered as kind 1 is costs
abbrev pub is_costs : ℕ → Bool
is_costs kind = kind == 1

-- what is entered as kind 2 is market revenue
abbrev pub is_revenue : ℕ → Bool
is_revenue kind = kind == 2

-- what is entered as a kind
abbrev pub entry_in : ℕ → Option Entry
entry_in kind = cond (is_costs kind) (Some Costs) (cond (is_revenue kind) (Some MarketRevenue) None)
