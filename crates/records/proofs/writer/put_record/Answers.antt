-- A record is written field by field.
use Rattle.std.proofs.Common.{◌∙◌, arith}
use Rattle.std.proofs.lemmas.Grind.{common_steps}
use Rattle.records.proofs.Puts.{drop_further}
use Rattle.records.proofs.writer.put_record.Goals as goal

pub loop-field-preserved : goal.loop-field-preserved
loop-field-preserved c =
    let put = c.put_next-next.ensures in
    (grind (arith, common_steps), grind (arith, common_steps), put.2 ∙ drop_further _ _ c.loop-field.next c.put_next-next.result c.loop-field.invariant.2 (omega (arith, put.0)), grind (arith, common_steps))

pub returns : goal.returns
returns c =
    let put = c.put.ensures in
    (grind (arith, common_steps), grind (arith, common_steps), put.2 ∙ drop_further _ _ c.loop-field.next c.put.result c.loop-field.invariant.2 (omega (arith, put.0)), grind (arith, common_steps))
