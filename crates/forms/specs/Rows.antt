-- A form as it lies on file.
use Rattle.std.specs.Prelude.{◌-◌, Bool, ◌&&◌, List, ◌++◌, length, take, drop, replicate, ◌==◌}
use Rattle.std.specs.List.{list_all}
use Rattle.forms.specs.declared.line.FormLine.{FormLine}
use Rattle.forms.specs.declared.row.FormRow.{FormRow}
use Rattle.forms.specs.Limits.{most_lines}
use Rattle.forms.specs.Lines.{is_line_count, weights_lawful, accounts_lawful}

-- what stands in a place that has no line
abbrev pub no_line : FormLine
no_line = record { account = record { 0 = 0 }; weight = 0 }

-- whether a place has no line
abbrev pub is_blank : FormLine → Bool
is_blank line = line.account.0 == 0 && line.weight == 0

-- the lines of a row; in a lawful row nothing stands past them
abbrev pub lines_of : FormRow → List FormLine
lines_of row = take row.count row.lines

-- the row of some lines: these first, and nothing past them
abbrev pub row_of : List FormLine → FormRow
row_of lines = record { lines = lines ++ replicate (most_lines - length lines) no_line; count = length lines }

-- the places past them
abbrev pub past_lines : FormRow → List FormLine
past_lines row = drop row.count row.lines

-- whether a row has 16 places, its lines make a form, and nothing stands past them
abbrev pub is_filled : FormRow → Bool
is_filled row =
    (length row.lines == most_lines)
    && (weights_lawful (lines_of row) && (accounts_lawful (lines_of row) && list_all is_blank (past_lines row)))

-- whether a row is a form
unfoldable pub lawful : FormRow → Bool
lawful row = is_line_count row.count && is_filled row
