-- A field in quotes is written byte by byte.
use Rattle.std.proofs.Common.{◌∙◌, arith}
use Rattle.std.proofs.lemmas.Grind.{common_steps}
use Rattle.records.proofs.Puts.{drop_further}
use Rattle.records.proofs.writer.put_quoted.Goals as goal

pub loop-b-preserved : goal.loop-b-preserved
loop-b-preserved c =
    let put = c.put_doubled-next.ensures in
    (grind (arith, common_steps), grind (arith, common_steps), put.2 ∙ drop_further _ _ c.loop-b.next c.put_doubled-next.result c.loop-b.invariant.2 (omega (arith, put.0)), grind (arith, common_steps))
