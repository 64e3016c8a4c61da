-- Rounding up at a half never passes the number itself.
use Rattle.std.proofs.Common.{ℕ, ◌+◌, ◌*◌, ◌/◌, ◌%◌, ◌<◌, ◌≤◌, mul-le-mul_right, mod-lt, arith}
use native.Mathlib.Nat.{div-add-mod}

pub rounded_up_within : (n d : ℕ) → 0 < d → d ≤ 2 * (n % d) → n / d + 1 ≤ n
rounded_up_within n d some half =
    let two : 2 ≤ d = omega (arith, mod-lt n some) in
    omega (arith, div-add-mod n d, mul-le-mul_right (n / d) two)
