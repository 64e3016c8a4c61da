-- A record that was measured and is within every limit is written.
use Rattle.std.proofs.Common.{◌≡◌, ◌∷◌, length, Some, sym, ap, ◌∙◌, subst, arith}
use lib.ListN.{length-map}
use Rattle.std.specs.List.{IsFirstAndRest}
use Rattle.std.proofs.lemmas.Option.{MatchOption-at_some}
use Rattle.records.specs.Buffers.{line_measured}
use Rattle.records.specs.Writing.{bytes_of, Written}
use Rattle.records.proofs.Lengths.{length_whole}
use Rattle.records.proofs.Measures.{measured_within}
use Rattle.records.proofs.ReadsBack.{written_from_put}
use Rattle.records.proofs.writer.write_record.Goals as goal

pub returns : goal.returns
returns c =
    let split = MatchOption-at_some _ (λ p. IsFirstAndRest c.args.fields.now p.0.now p.1.now) _ c.in_ok-first.ensures.ok_part c.split_first.ensures.cases in
    let fields = c.in_ok-first.first.now.now ∷ bytes_of c.in_ok-first.rest.now in
    let known : line_measured fields ≡ Some c.in_ok-len.len = sym c.line_len.ensures ∙ c.in_ok-len.ensures.ok_part in
    let within = measured_within fields c.in_ok-len.len known (omega arith) in
    let few = length-map c.in_ok-first.rest.now (λ field. field.now) in
    let more = ap length split.0 in
    let long = length_whole fields in
    let written = written_from_put fields _ _ _ (omega arith) within.0 (omega arith) (omega (arith, within.1)) (omega (arith, within.1)) c.put_record.ensures in
    subst (λ fs. Written fs c.args.out.now c.put_record.result c.put_record.new.out) (sym (ap bytes_of split.0)) written
