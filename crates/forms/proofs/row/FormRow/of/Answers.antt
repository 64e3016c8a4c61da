-- The row is that of the lines, and is lawful exactly if they make a form.
use Rattle.std.proofs.Common.{◌++◌, length, drop, replicate, ap, ◌∙◌, rules}
use Rattle.std.proofs.lemmas.List.{drop-replicate}
use Rattle.forms.specs.declared.line.FormLine.{FormLine}
use Rattle.forms.specs.Limits.{most_lines}
use Rattle.forms.specs.Rows.{lawful, no_line}
use Rattle.forms.proofs.Lawful.{row_of_lawful}
use Rattle.forms.proofs.row.FormRow.of.Goals as goal

pub returns-clause-whole : goal.returns-clause-whole
returns-clause-whole c =
    let n = length c.args.lines.now in
    ap (λ xs. record { lines = xs ++ drop n (replicate most_lines c.default-places.result); count = n }) c.copy_from_slice.ensures.after
    ∙ ap (λ (line : FormLine). record { lines = c.args.lines.now ++ drop n (replicate most_lines line); count = n }) (search rules)
    ∙ ap (λ xs. record { lines = c.args.lines.now ++ xs; count = n }) (drop-replicate n most_lines no_line)

pub returns-clause-lawful : goal.returns-clause-lawful
returns-clause-lawful c = ap lawful (returns-clause-whole c) ∙ row_of_lawful c.args.lines.now c.requires
