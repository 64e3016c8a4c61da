-- Bytes that are written over a part of a buffer.
use Rattle.std.proofs.Common.{rules}
use Rattle.std.proofs.lemmas.Slice.{overwrites}
use Rattle.records.proofs.writer.put.Goals as goal

pub returns : goal.returns
returns c = search (rules, overwrites)
