-- What is known of a lawful row, and which rows are lawful.
use Rattle.std.proofs.Math.Bool.{and-true}
use Rattle.std.proofs.Common.{◌≡◌, ℕ, ◌+◌, ◌-◌, ◌≤◌, Bool, true, false, ◌&&◌, eqb, leb, List, length, replicate, zero, suc, refl, sym, ap, ◌∙◌, arith, length-append, length-take-le}
use Rattle.std.proofs.Math.Seq.{drop-append_seam, take-append_seam}
use Rattle.std.proofs.lemmas.List.{length-replicate}
use Rattle.std.proofs.lemmas.Bool.{and_parts, eq-eqb, leb-true}
use Rattle.std.specs.List.{list_all}
use Rattle.forms.specs.declared.line.FormLine.{FormLine}
use Rattle.forms.specs.declared.row.FormRow.{FormRow}
use Rattle.forms.specs.Limits.{most_lines, whole_weight}
use Rattle.forms.specs.Lines.{is_line_count, has_weight, total_weight, weights_lawful, accounts_lawful}
use Rattle.forms.specs.Rows.{is_blank, is_filled, lawful, lines_of, no_line, past_lines, row_of}

within : (n : ℕ) → is_line_count n ≡ true → n ≤ most_lines
within n h = leb-true n most_lines (and_parts (leb 1 n) (leb n most_lines) h).1

pub count_within : (row : FormRow) → lawful row ≡ true → row.count ≤ most_lines
unfolding lawful
count_within row h = within row.count (and_parts (is_line_count row.count) (is_filled row) h).0

-- the lines of a row make a form, and nothing stands past them
abbrev pub is_form : FormRow → Bool
is_form row = weights_lawful (lines_of row) && (accounts_lawful (lines_of row) && list_all is_blank (past_lines row))

-- the lines of a lawful row make a form
pub lines_are_lawful : (row : FormRow) → lawful row ≡ true → (weights_lawful (lines_of row) ≡ true) × (accounts_lawful (lines_of row) ≡ true)
unfolding lawful
lines_are_lawful row h =
    let filled = (and_parts (is_line_count row.count) (is_filled row) h).1 in
    let by_lines = (and_parts (eqb (length row.lines) most_lines) (is_form row) filled).1 in
    let by_accounts = and_parts (weights_lawful (lines_of row)) _ by_lines in
    (by_accounts.0, (and_parts (accounts_lawful (lines_of row)) _ by_accounts.1).0)

-- a test that is part of the next need not be made
made_twice : (a b c : Bool) → (a && ((a && b) && c)) ≡ ((a && b) && c)
made_twice true b c = refl
made_twice false b c = refl

-- a row of 16 places is lawful exactly if it has no more lines than places and they make a form
pub lawful_by : (row : FormRow) → length row.lines ≡ most_lines → row.count ≤ most_lines → lawful row ≡ is_form row
unfolding lawful
lawful_by row size fits =
    let lines = lines_of row in
    let weighed = list_all has_weight lines && eqb (total_weight lines) whole_weight in
    let rest = accounts_lawful lines && list_all is_blank (past_lines row) in
    let so_many : length lines ≡ row.count = length-take-le row.count row.lines (omega arith) in
    ap (λ b. is_line_count row.count && (b && is_form row)) (eq-eqb (length row.lines) most_lines size)
    ∙ ap (λ n. is_line_count n && is_form row) (sym so_many)
    ∙ made_twice (is_line_count (length lines)) weighed rest

all_blank : (n : ℕ) → list_all is_blank (replicate n no_line) ≡ true
all_blank zero = refl
all_blank (suc n) = all_blank n

-- the row of some lines is lawful exactly if they make a form
pub row_of_lawful : (lines : List FormLine) → is_line_count (length lines) ≡ true → lawful (row_of lines) ≡ (weights_lawful lines && accounts_lawful lines)
row_of_lawful lines counts =
    let fits = within (length lines) counts in
    let blanks = replicate (most_lines - length lines) no_line in
    let row = row_of lines in
    let size : length row.lines ≡ most_lines = length-append lines blanks ∙ ap (λ n. length lines + n) (length-replicate (most_lines - length lines) no_line) ∙ omega arith in
    lawful_by row size fits
    ∙ ap (λ xs. weights_lawful xs && (accounts_lawful xs && list_all is_blank (past_lines row))) (take-append_seam lines blanks)
    ∙ ap (λ xs. weights_lawful lines && (accounts_lawful lines && list_all is_blank xs)) (drop-append_seam lines blanks)
    ∙ ap (λ b. weights_lawful lines && (accounts_lawful lines && b)) (all_blank (most_lines - length lines))
    ∙ ap (λ b. weights_lawful lines && b) (and-true (accounts_lawful lines))
