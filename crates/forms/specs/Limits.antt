-- The whole that a form shares out, and the most lines that it has.
use Rattle.std.specs.Prelude.{ℕ}

-- what the weights of a form make up together
abbrev pub whole_weight : ℕ
whole_weight = 10000

-- the most lines of a form
abbrev pub most_lines : ℕ
most_lines = 16
