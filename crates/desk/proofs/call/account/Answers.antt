use Rattle.std.proofs.Common.{arith}
use Rattle.std.proofs.lemmas.Bool.Decides.{nat_tests}
use Rattle.desk.proofs.call.account.Goals as goal

pub returns-then-count-ne3 : goal.returns-then-count-ne3
returns-then-count-ne3 c = let n = c.count.ensures in let t = c.if-count-ne3.true in grind (arith, nat_tests)
