-- Numerals of numbers: their digits, their length, and that they read back as the number.
use Rattle.std.proofs.Common.{◌≡◌, ℕ, suc, ◌+◌, ◌-◌, ◌*◌, ◌^◌, ◌<◌, ◌≤◌, true, false, cond, List, [], ◌∷◌, ◌++◌, length, drop, set, ℤ, pos, negsuc, neg_ℤ, nat_abs, Some, None, decimal, Option, sym, refl, ap, ◌∙◌, arith, rules}
use native.Mathlib.Nat.{pow-le-pow_right}
use lib.Signed.{mag, le_z}
use Rattle.std.proofs.lemmas.List.{drop-set, append-nil}
use Rattle.std.specs.Fmt.{signed_decimal}
use Rattle.std.proofs.lemmas.Bool.{and_from, and_parts}
use Rattle.std.proofs.lemmas.Bool.Decides.{nat_tests}
use Rattle.std.proofs.lemmas.Str.Parse.{IsNumeralModel, FoldsDigits, IsDigitsTest, numerals_by_fold}
use Rattle.std.proofs.lemmas.Fmt.{AppendsLastDigit, decimal_from_appends, length-decimal-le_succ, digits_decimal, digits_value-decimal, length-decimal-le, length_signed_le, decimal_nonempty}
use Rattle.std.specs.List.{list_all, fold}
use Rattle.std.specs.Char.{is_ascii_digit}
use Rattle.records.specs.Grammar.{plain_byte}
use Rattle.records.specs.Numbers.{all_digits, is_numeral, value_of, number_in, signed_in, digits_by, digits_of, decimal_of, Writes}

-- what digits are worth after others that are worth n
abbrev value_after : ℕ → List ℕ → ℕ
value_after n bs = fold (λ n b. n * 10 + (b - 48)) n bs

-- what a field gives after digits that are worth n: a number, if all of it is digits
abbrev pub read_after : ℕ → List ℕ → Option ℕ
read_after n bs = cond (all_digits bs) (Some (value_after n bs)) None

pub fifteen_places : (n i : ℕ) → n < 10 ^ i → i ≤ 15 → n < 10 ^ 15
fifteen_places n i few within = let wide : 10 ^ i ≤ 10 ^ 15 = pow-le-pow_right (omega arith) within in omega arith

tells_all_digits : IsDigitsTest (λ bs. all_digits bs ≡ true)
tells_all_digits = search rules

folds_value_after : FoldsDigits value_after
folds_value_after = search rules

numerals : IsNumeralModel (λ bs. all_digits bs ≡ true) value_of
numerals = numerals_by_fold _ tells_all_digits value_after folds_value_after

spells_digits_by : AppendsLastDigit digits_by
spells_digits_by = search rules

digits_of_is_decimal : (n : ℕ) → n < 2 ^ 64 → digits_of n ≡ decimal n
unfolding digits_of
digits_of_is_decimal n small = decimal_from_appends digits_by spells_digits_by (suc n) n small (omega (arith, length-decimal-le_succ n small))

-- the digits of a number of 64 bits are digits and nothing else
pub digits_are_digits : (n : ℕ) → n < 2 ^ 64 → all_digits (digits_of n) ≡ true
digits_are_digits n small = rw (digits_of_is_decimal n small) (digits_decimal numerals n small)

-- the numeral of a number of 64 bits is what std prints of it
signed_decimal_is_decimal_of : (z : ℤ) → mag z < 2 ^ 63 → signed_decimal z ≡ decimal_of z
signed_decimal_is_decimal_of (pos n) small = sym (digits_of_is_decimal n (omega arith))
signed_decimal_is_decimal_of (negsuc n) small = ap (λ ds. 45 ∷ ds) (sym (digits_of_is_decimal (suc n) (omega arith)))

numeral_of_decimal : (n : ℕ) → n < 2 ^ 64 → is_numeral (decimal n) ≡ true
numeral_of_decimal n small = let some = decimal_nonempty n small in let all = digits_decimal numerals n small in grind (arith, nat_tests)

number_in_decimal : (n : ℕ) → n < 10 ^ 15 → number_in (decimal n) ≡ Some n
number_in_decimal n few =
    let small : n < 2 ^ 64 = omega arith in
    let short = length-decimal-le 15 n (omega arith) few small in
    let held = numeral_of_decimal n small in
    let worth = digits_value-decimal numerals n small in
    grind (arith, nat_tests)

signed_in_cons : (b : ℕ) (bs : List ℕ) → is_numeral (b ∷ bs) ≡ true → signed_in (b ∷ bs) ≡ Some (pos (value_of (b ∷ bs)))
signed_in_cons b bs held = grind (arith, nat_tests)

signed_in_numeral : (ds : List ℕ) → is_numeral ds ≡ true → signed_in ds ≡ Some (pos (value_of ds))
signed_in_numeral [] held = absurd (search rules)
signed_in_numeral (b ∷ bs) held = signed_in_cons b bs held

signed_in_minus : (ds : List ℕ) → is_numeral ds ≡ true → signed_in (45 ∷ ds) ≡ Some (neg_ℤ (pos (value_of ds)))
signed_in_minus ds held = grind (arith, nat_tests)

plain_digit : (b : ℕ) → is_ascii_digit b ≡ true → plain_byte b ≡ true
plain_digit b digit = grind (arith, nat_tests)

plain_digits : (ds : List ℕ) → all_digits ds ≡ true → list_all plain_byte ds ≡ true
plain_digits [] all = refl
plain_digits (b ∷ bs) all = let parts = and_parts (is_ascii_digit b) (all_digits bs) all in and_from _ _ (plain_digit b parts.0) (plain_digits bs parts.1)

signed_in_decimal : (z : ℤ) → mag z < 2 ^ 63 → signed_in (signed_decimal z) ≡ Some z
signed_in_decimal (pos n) small =
    let worth = digits_value-decimal numerals n (omega arith) in
    let plus = signed_in_numeral (decimal n) (numeral_of_decimal n (omega arith)) in
    cc
signed_in_decimal (negsuc n) small =
    let worth = digits_value-decimal numerals (suc n) (omega arith) in
    let minus = signed_in_minus (decimal (suc n)) (numeral_of_decimal (suc n) (omega arith)) in
    cc

number_in_signed_decimal : (z : ℤ) (n : ℕ) → z ≡ pos n → n < 10 ^ 15 → number_in (signed_decimal z) ≡ Some n
number_in_signed_decimal z n is few = rw is (number_in_decimal n few)

plain_signed_decimal : (z : ℤ) → mag z < 2 ^ 63 → list_all plain_byte (signed_decimal z) ≡ true
plain_signed_decimal (pos n) small = plain_digits (decimal n) (digits_decimal numerals n (omega arith))
plain_signed_decimal (negsuc n) small = plain_digits (decimal (suc n)) (digits_decimal numerals (suc n) (omega arith))

some_signed_decimal : (z : ℤ) → mag z < 2 ^ 63 → 1 ≤ length (signed_decimal z)
some_signed_decimal (pos n) small = decimal_nonempty n (omega arith)
some_signed_decimal (negsuc n) small = omega arith

-- what is printed of a number of 64 bits is its numeral
writes_signed_decimal : (z : ℤ) → mag z < 2 ^ 63 → Writes z (signed_decimal z)
writes_signed_decimal z small = record {
  exact = signed_decimal_is_decimal_of z small;
  reads = signed_in_decimal z small;
  number = number_in_signed_decimal z;
  some = some_signed_decimal z small;
  most = length_signed_le 19 z (omega arith) small;
  plain = plain_signed_decimal z small;
}

pub writes_from_same : (z : ℤ) (bs : List ℕ) → mag z < 2 ^ 63 → bs ≡ signed_decimal z → Writes z bs
writes_from_same z bs small same = rw same (writes_signed_decimal z small)

-- the digits of a size, with a minus sign before them or not, are what is printed of the number
printed_natural : (z : ℤ) → le_z (pos 0) z ≡ true → decimal (nat_abs z) ≡ signed_decimal z
printed_natural (pos n) natural = refl
printed_natural (negsuc n) natural = absurd (search rules)

printed_negative : (z : ℤ) → le_z (pos 0) z ≡ false → 45 ∷ decimal (nat_abs z) ≡ signed_decimal z
printed_negative (pos n) negative = absurd (search rules)
printed_negative (negsuc n) negative = refl

short_size : (z : ℤ) → mag z < 2 ^ 63 → length (decimal (nat_abs z)) ≤ 19
short_size (pos n) small = length-decimal-le 19 n (omega arith) (omega arith) (omega arith)
short_size (negsuc n) small = length-decimal-le 19 (suc n) (omega arith) (omega arith) (omega arith)

-- the digits of n, which is the size of z, stand in a place from i to its end
module _ (z : ℤ) (i n : ℕ) (small : mag z < 2 ^ 63) (size : n ≡ nat_abs z) where
  pub room_for_sign : i + length (decimal n) ≡ 20 → 1 ≤ i
  room_for_sign ends = omega (arith, ends, short_size z small, ap (λ m. length (decimal m)) size)

  -- they are the numeral of a number that is not negative
  pub writes_natural : (xs : List ℕ) → le_z (pos 0) z ≡ true → drop i xs ≡ decimal n ++ [] → Writes z (drop i xs)
  writes_natural xs natural digits = writes_from_same z _ small (digits ∙ append-nil _ ∙ ap decimal size ∙ printed_natural z natural)

  -- and with a sign before them that of a negative number
  pub writes_negative : (xs : List ℕ) → le_z (pos 0) z ≡ false → 1 ≤ i → i ≤ length xs → drop i xs ≡ decimal n ++ [] → Writes z (drop (i - 1) (set xs (i - 1) 45))
  writes_negative xs negative room within digits =
      let next : i - 1 + 1 ≡ i = omega arith in
      let sign = drop-set xs (i - 1) 45 (omega arith) ∙ ap (λ k. 45 ∷ drop k xs) next in
      writes_from_same z _ small (sign ∙ ap (λ ds. 45 ∷ ds) (digits ∙ append-nil _ ∙ ap decimal size) ∙ printed_negative z negative)
