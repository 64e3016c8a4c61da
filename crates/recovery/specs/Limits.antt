-- How many cents may be entered.
use Rattle.std.specs.Prelude.{ℕ, ◌+◌, ◌^◌, None, Option, nat_le}
use Rattle.measures.specs.Answers.{unless}
use Rattle.measures.specs.declared.refusal.Refusal.{Refusal}
use Rattle.measures.specs.declared.refusal.Refusal.TheVariants.{LimitPassed}

-- the most cents that are entered at once
abbrev pub most_at_once : ℕ
most_at_once = 10 ^ 11

-- the most cents that are ever entered of a kind
abbrev pub most_in_all : ℕ
most_in_all = 10 ^ 12

-- the reason against adding cents to a total: it would pass its limit
abbrev pub against_adding : ℕ → ℕ → Option Refusal
against_adding total cents = unless (nat_le (total + cents) most_in_all) LimitPassed None
