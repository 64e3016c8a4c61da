use Rattle.records.proofs.Drafts.{Along}
use Rattle.records.proofs.draft.Draft.read.Given as goal

abbrev pub invariant-loop-i : goal.invariant-loop-i
invariant-loop-i l = Along l.initial.self l.part l.self l.i
