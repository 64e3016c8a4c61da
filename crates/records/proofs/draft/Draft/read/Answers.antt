use Rattle.std.proofs.Common.{get_or, Ok, ◌++◌, refl, subst, arith}
use Rattle.std.proofs.lemmas.List.{take_all}
use Rattle.records.specs.Drafts.{onward, Holds, Takes}
use Rattle.records.proofs.Drafts.{along_ended, along_broken}
use Rattle.records.proofs.draft.Draft.read.Goals as goal

pub returns-in-Ok-Record : goal.returns-in-Ok-Record
returns-in-Ok-Record c =
    along_ended c.args.self.now c.args.part.now c.loop-i.self c.take_in.new.self c.loop-i.i (omega arith) c.loop-i.invariant
    (subst (λ v. Takes c.loop-i.self (get_or c.args.part.now c.loop-i.i 0) (Ok v) c.take_in.new.self) c.in-Ok-Record.field-0-is c.in-Ok-Record.ensures)

pub returns-in-Err : goal.returns-in-Err
returns-in-Err c =
    along_broken c.args.self.now c.args.part.now c.loop-i.self c.take_in.new.self c.loop-i.i c.in-Err.fault (omega arith) c.loop-i.invariant c.in-Err.ensures

pub returns : goal.returns
returns c =
    let part = c.args.part.now in
    onward refl refl
    (λ p t. subst (λ x. Holds c.loop-i.self (p ++ x)) (take_all c.loop-i.i part (omega arith)) (c.loop-i.invariant p t))
