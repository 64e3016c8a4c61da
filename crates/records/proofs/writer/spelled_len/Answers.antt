-- A plain field is text as it stands, and one that is past the limit is so as it is written too.
use Rattle.std.proofs.Common.{arith}
use Rattle.std.proofs.lemmas.Bool.Decides.{nat_tests}
use Rattle.records.proofs.Measures.{plain_is_text, length_le_doubled, length_in_quotes}
use Rattle.records.proofs.Lengths.{length_spelled_plain}
use Rattle.records.proofs.writer.spelled_len.Goals as goal

pub returns-then-is_plain : goal.returns-then-is_plain
returns-then-is_plain c =
    let field = c.args.field.now in
    grind (arith, nat_tests, plain_is_text field, length_spelled_plain field)

pub returns-then-field-gt-MAX_BYTES : goal.returns-then-field-gt-MAX_BYTES
returns-then-field-gt-MAX_BYTES c =
    let field = c.args.field.now in
    grind (arith, nat_tests, length_le_doubled field, length_in_quotes field)
