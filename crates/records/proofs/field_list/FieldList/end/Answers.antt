use Rattle.std.proofs.Common.{suc, ◌<◌, ◌≤◌, get_or, length, sym, subst, arith}
use Rattle.records.specs.Laid.{start_of}
use Rattle.records.proofs.field_list.FieldList.end.Goals as goal

pub returns-else-k-len-clause-within : goal.returns-else-k-len-clause-within
returns-else-k-len-clause-within c =
    let l = c.args.self.now in
    let k = c.args.k in
    let below : k < length l.ends.items = omega arith in
    subst (λ ends. (start_of l.ends.items k ≤ get_or ends k 0) × (get_or ends k 0 ≤ length l.bytes.items)) (sym c.deref.ensures.0)
    (l.ordered k below, l.inside (suc k) (omega arith))
