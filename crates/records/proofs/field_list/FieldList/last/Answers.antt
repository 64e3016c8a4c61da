use Rattle.std.proofs.Common.{length, arith}
use Rattle.records.specs.FieldLists.{complete, current}
use Rattle.std.proofs.lemmas.List.{length_push}
use Rattle.records.proofs.Laid.{length_first_fields}
use Rattle.records.proofs.field_list.FieldList.last.Goals as goal

pub returns-clause-place : goal.returns-clause-place
returns-clause-place c =
    let l = c.args.self.now in
    omega (arith, length_push (complete l) (current l), length_first_fields l.bytes.items l.ends.items (length l.ends.items))
