-- A list of lines: whether its weights and its accounts make a form.
use Rattle.std.specs.Prelude.{ℕ, Bool, true, not, ◌&&◌, List, [], ◌∷◌, length, None, sum_by, Option, ◌==◌, nat_le}
use Rattle.std.specs.Int.{is_in_range}
use Rattle.std.specs.List.{list_all, list_any}
use Rattle.measures.specs.Answers.{unless}
use Rattle.measures.specs.Measures.{is_account}
use Rattle.measures.specs.declared.refusal.Refusal.{Refusal}
use Rattle.measures.specs.declared.refusal.Refusal.TheVariants.{BadWeights, BadAccounts}
use Rattle.forms.specs.declared.line.FormLine.{FormLine}
use Rattle.forms.specs.Limits.{whole_weight, most_lines}

-- whether a form may have so many lines
abbrev pub is_line_count : ℕ → Bool
is_line_count n = is_in_range 1 most_lines n

-- whether a line has a weight
abbrev pub has_weight : FormLine → Bool
has_weight line = nat_le 1 line.weight

-- the weights of the lines together
abbrev pub total_weight : List FormLine → ℕ
total_weight lines = sum_by (λ (line : FormLine). line.weight) lines

-- whether these are as many lines as a form may have, each has a weight, and the weights make up the whole
abbrev pub weights_lawful : List FormLine → Bool
weights_lawful lines =
    is_line_count (length lines) && (list_all has_weight lines && total_weight lines == whole_weight)

-- whether a line's number is an account number
abbrev pub has_account_number : FormLine → Bool
has_account_number line = is_account line.account.0

-- whether a line names the account
abbrev pub names : List FormLine → ℕ → Bool
names lines n = list_any (λ (line : FormLine). line.account.0 == n) lines

-- whether no account is named twice
abbrev pub none_twice : List FormLine → Bool
none_twice [] = true
none_twice (line ∷ rest) = not (names rest line.account.0) && none_twice rest

-- whether each line names an account, and no two the same
abbrev pub accounts_lawful : List FormLine → Bool
accounts_lawful lines = list_all has_account_number lines && none_twice lines

-- the first reason against a form of these lines
abbrev pub against_form : List FormLine → Option Refusal
against_form lines = unless (weights_lawful lines) BadWeights (unless (accounts_lawful lines) BadAccounts None)
