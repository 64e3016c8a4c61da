-- How amounts and quotients are rounded.
use Rattle.std.specs.Prelude.{ℕ, ◌+◌, ◌*◌, ◌/◌, ◌%◌, cond, ℤ, pos, negsuc, neg_ℤ, Some, None, Option, ◌==◌, nat_le, unsigned_abs}

-- the whole cents of so many millicents
abbrev pub whole_cents : ℕ → ℕ
whole_cents millicents = millicents / 1000

-- what is left of them, below a cent
abbrev pub fraction : ℕ → ℕ
fraction millicents = millicents % 1000

-- a quotient rounded down, also below zero: of -(n + 1) by d it is -(n / d + 1)
abbrev pub down : ℤ → ℕ → ℤ
down (pos n) d = pos (n / d)
down (negsuc n) d = negsuc (n / d)

-- a size, with the sign of a number
abbrev pub with_sign_of : ℤ → ℕ → ℤ
with_sign_of (pos n) size = pos size
with_sign_of (negsuc n) size = neg_ℤ (pos size)

-- a quotient rounded toward zero
abbrev pub toward_zero : ℤ → ℕ → ℤ
toward_zero z d = with_sign_of z (unsigned_abs z / d)

-- a quotient of sizes rounded to the nearest whole number: what is left counts as one if it is at least half of the divisor
abbrev pub nearest_size : ℕ → ℕ → ℕ
nearest_size n d = n / d + cond (nat_le d (2 * (n % d))) 1 0

-- a quotient rounded to the nearest whole number, halves away from zero
abbrev pub nearest : ℤ → ℕ → ℤ
nearest z d = with_sign_of z (nearest_size (unsigned_abs z) d)

-- a quotient rounded in one of these ways, if there is a divisor
abbrev pub by_divisor : (ℤ → ℕ → ℤ) → ℤ → ℕ → Option ℤ
by_divisor quotient z d = cond (d == 0) None (Some (quotient z d))
