-- What is answered where a form is made.
use Rattle.std.specs.Prelude.{◌≡◌, ℕ, true, false, List, map, ℤ, Some, None, Ok, Err, Result}
use Rattle.measures.specs.declared.measure.SignedCents.{SignedCents}
use Rattle.measures.specs.declared.refusal.Refusal.{Refusal}
use Rattle.split.specs.Splitting.{Splits}
use Rattle.split.specs.declared.reason.Unsplit.{Unsplit}
use Rattle.forms.specs.declared.line.FormLine.{FormLine}
use Rattle.forms.specs.declared.row.FormRow.{FormRow}
use Rattle.forms.specs.declared.allocation.Form.{Form}
use Rattle.forms.specs.declared.allocation.Unlawful.{Unlawful}
use Rattle.forms.specs.Lines.{against_form}
use Rattle.forms.specs.Rows.{lines_of, row_of, lawful}

-- a form of the lines, or the first reason against one
abbrev pub FormOfLines : List FormLine → Result Form Refusal → Type 0
FormOfLines lines (Ok form) = (against_form lines ≡ None) × (lines_of form.row ≡ lines) × (form.row ≡ row_of lines)
FormOfLines lines (Err reason) = against_form lines ≡ Some reason

-- the form of a row, if the row is one
abbrev pub FormOfRow : FormRow → Result Form Unlawful → Type 0
FormOfRow row (Ok form) = (lawful row ≡ true) × (form.row ≡ row)
FormOfRow row (Err unlawful) = lawful row ≡ false

-- the weights of the lines of a row, in their order
abbrev pub weights_of : FormRow → List ℕ
weights_of row = map (λ (line : FormLine). line.weight) (lines_of row)

-- sharing out an amount to the lines of a form: the one split, by the weights of the lines
abbrev pub Allocates : {A : Type 0} → FormRow → ℤ → Result A Unsplit → List SignedCents → List SignedCents → Type 0
Allocates row amount r before after = Splits amount (weights_of row) r before after
