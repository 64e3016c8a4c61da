-- The digits of the size stand at the end of the place, and with the sign before them they are the number's numeral.
use Rattle.std.proofs.Common.{◌≤◌, length, w64, SFits, arith, rules}
use Rattle.std.proofs.lemmas.Fmt.{length-decimal-le}
use Rattle.std.proofs.lemmas.Int.{to_z-of_z}
use Rattle.records.proofs.Numbers.{room_for_sign, writes_natural, writes_negative}
use Rattle.records.proofs.numeral.Decimal.new.Goals as goal

pub write_digits-start-requires : goal.write_digits-start-requires
write_digits-start-requires c = search (rules, length-decimal-le 20)

pub invariant_of-result : goal.invariant_of-result
invariant_of-result c =
    let fits : SFits w64 c.args.value = c.ranges.value in
    let size = simp (to_z-of_z, fits) at c.unsigned_abs.ensures.value in
    let natural = simp (to_z-of_z, fits) at c.if-value-ge0.true in
    let numeral = writes_natural c.args.value c.write_digits-start.result _ fits.sfits size c.write_digits-start.new.buf natural c.write_digits-start.ensures.written in
    record { within = omega (arith, c.write_digits-start.ensures.start); few = numeral.most; plain = numeral.plain }

pub returns-then-value-ge0 : goal.returns-then-value-ge0
returns-then-value-ge0 c =
    let fits : SFits w64 c.args.value = c.ranges.value in
    let size = simp (to_z-of_z, fits) at c.unsigned_abs.ensures.value in
    let natural = simp (to_z-of_z, fits) at c.if-value-ge0.true in
    writes_natural c.args.value c.write_digits-start.result _ fits.sfits size c.write_digits-start.new.buf natural c.write_digits-start.ensures.written

pub overflow_sub-start : goal.overflow_sub-start
overflow_sub-start c =
    let fits : SFits w64 c.args.value = c.ranges.value in
    let size = simp (to_z-of_z, fits) at c.unsigned_abs.ensures.value in
    room_for_sign c.args.value c.write_digits-start.result _ fits.sfits size c.write_digits-start.ensures.start

pub invariant_of-result-2 : goal.invariant_of-result-2
invariant_of-result-2 c =
    let fits : SFits w64 c.args.value = c.ranges.value in
    let size = simp (to_z-of_z, fits) at c.unsigned_abs.ensures.value in
    let negative = simp (to_z-of_z, fits) at c.if-value-ge0.false in
    let room = room_for_sign c.args.value c.write_digits-start.result _ fits.sfits size c.write_digits-start.ensures.start in
    let within : c.write_digits-start.result ≤ length c.write_digits-start.new.buf = search rules in
    let numeral = writes_negative c.args.value c.write_digits-start.result _ fits.sfits size c.write_digits-start.new.buf negative room within c.write_digits-start.ensures.written in
    record { within = omega (arith, c.write_digits-start.ensures.start); few = numeral.most; plain = numeral.plain }

pub returns : goal.returns
returns c =
    let fits : SFits w64 c.args.value = c.ranges.value in
    let size = simp (to_z-of_z, fits) at c.unsigned_abs.ensures.value in
    let negative = simp (to_z-of_z, fits) at c.if-value-ge0.false in
    let room = room_for_sign c.args.value c.write_digits-start.result _ fits.sfits size c.write_digits-start.ensures.start in
    let within : c.write_digits-start.result ≤ length c.write_digits-start.new.buf = search rules in
    writes_negative c.args.value c.write_digits-start.result _ fits.sfits size c.write_digits-start.new.buf negative room within c.write_digits-start.ensures.written
