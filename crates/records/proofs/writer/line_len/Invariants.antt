-- What a loop over the fields keeps: what is counted with the fields that are left measures as the whole.
use Rattle.std.proofs.Common.{◌≡◌, ◌≤◌, ◌∷◌, drop}
use Rattle.records.specs.Buffers.{line_measured}
use Rattle.records.specs.Writing.{bytes_of}
use Rattle.records.proofs.Measures.{measured_from}
use Rattle.records.proofs.writer.line_len.Given as goal

abbrev pub invariant-loop-field : goal.invariant-loop-field
invariant-loop-field l = (l.len ≤ 1025) × (measured_from l.len (bytes_of (drop l.field-index l.rest)) ≡ line_measured (l.first ∷ bytes_of l.rest))
