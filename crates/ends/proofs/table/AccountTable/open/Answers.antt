-- The account keeps its number and its credit, so it stays sound.
use Rattle.std.proofs.Common.{rules}
use Rattle.ends.proofs.Soundness.{sound_write}
use Rattle.ends.proofs.table.AccountTable.open.Goals as goal

pub invariant_of-self-clause-bounded : goal.invariant_of-self-clause-bounded
invariant_of-self-clause-bounded c =
    sound_write c.args.self.now c.deref_mut.result.now c.in-Some.i _ c.deref_mut.ensures.value (search rules) (λ was. search rules)
