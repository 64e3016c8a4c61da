use Rattle.std.proofs.Common.{◌*◌, ◌%◌, ◌<◌, ◌≤◌, arith}
use Rattle.measures.proofs.Halves.{rounded_up_within}
use Rattle.measures.proofs.rounding.rounded_to_nearest.Goals as goal

pub with_sign_of-requires : goal.with_sign_of-requires
with_sign_of-requires c =
    let size = c.unsigned_abs-size.result in
    let some : 0 < c.args.divisor = omega arith in
    let half : c.args.divisor ≤ 2 * (size % c.args.divisor) = omega arith in
    omega (arith, rounded_up_within size c.args.divisor some half, c.unsigned_abs-size.ensures.value)
