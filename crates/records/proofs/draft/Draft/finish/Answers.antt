use Rattle.std.proofs.Common.{arith, rules}
use Rattle.records.proofs.Drafts.{finish_record, finish_cut}
use Rattle.records.proofs.draft.Draft.finish.Goals as goal

pub returns-else-self-eq0 : goal.returns-else-self-eq0
returns-else-self-eq0 c = finish_record c.args.self.now c.in-Plain.is (omega (arith, c.if-self-eq0.false))

pub returns-in-Quoted : goal.returns-in-Quoted
returns-in-Quoted c = search (rules, finish_cut)
