use Rattle.std.proofs.Common.{rules}
use Rattle.records.proofs.Drafts.{takes}
use Rattle.records.proofs.draft.Draft.take_in.Goals as goal

pub returns-in-End : goal.returns-in-End
returns-in-End c = search (rules, takes)

pub returns-in-Refuse : goal.returns-in-Refuse
returns-in-Refuse c = search (rules, takes)
