-- A comma, and then the field.
use Rattle.std.proofs.Common.{[], ◌∷◌}
use Rattle.records.specs.Writing.{spelled}
use Rattle.records.proofs.Puts.{put_then}
use Rattle.records.proofs.writer.put_next.Goals as goal

pub returns : goal.returns
returns c = put_then _ _ _ _ _ _ (44 ∷ []) (spelled c.args.field.now) c.put-next.ensures c.put_field.ensures
