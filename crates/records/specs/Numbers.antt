-- How numbers stand in a field: which bytes are a numeral, what it is worth, and the one numeral that a number is written as.
use Rattle.std.specs.Prelude.{◌≡◌, ℕ, zero, suc, ◌+◌, ◌-◌, ◌*◌, ◌/◌, ◌%◌, ◌^◌, ◌<◌, ◌≤◌, Bool, true, cond, ◌&&◌, List, [], ◌∷◌, ◌++◌, length, ℤ, pos, negsuc, neg_ℤ, Some, None, Option, ◌==◌, nat_le, nat_lt}
use Rattle.std.specs.List.{list_all, fold}
use Rattle.std.specs.Char.{is_ascii_digit}
use Rattle.records.specs.Grammar.{plain_byte}

-- every byte is one of the ten digits
abbrev pub all_digits : List ℕ → Bool
all_digits bs = list_all is_ascii_digit bs

-- there is a digit, and there is nothing else
abbrev pub is_numeral : List ℕ → Bool
is_numeral bs = nat_le 1 (length bs) && all_digits bs

-- what digits are worth, read from the left: ten times what is read so far, and the next digit
abbrev pub value_of : List ℕ → ℕ
value_of bs = fold (λ n b. n * 10 + (b - 48)) 0 bs

-- the most digits that a number in a field may have
abbrev pub most_digits : ℕ
most_digits = 15

-- the number that a field holds: it is a numeral of at most fifteen digits, leading zeros counted
abbrev pub number_in : List ℕ → Option ℕ
number_in bs = cond (nat_le (length bs) most_digits && is_numeral bs) (Some (value_of bs)) None

-- the integer that a numeral of any length is, with or without a minus sign in front
abbrev pub signed_in : List ℕ → Option ℤ
signed_in [] = None
signed_in (b ∷ bs) = cond (b == 45) (cond (is_numeral bs) (Some (neg_ℤ (pos (value_of bs)))) None) (cond (is_numeral (b ∷ bs)) (Some (pos (value_of (b ∷ bs)))) None)

-- the digits of a number that has at most `most` of them: those of its tens, and then the last
abbrev pub digits_by : ℕ → ℕ → List ℕ
digits_by zero n = []
digits_by (suc most) n = cond (nat_lt n 10) ((48 + n) ∷ []) (digits_by most (n / 10) ++ ((48 + n % 10) ∷ []))

-- the digits of a number, with no leading zero; it never has more than n + 1 of them
unfoldable pub digits_of : ℕ → List ℕ
digits_of n = digits_by (suc n) n

-- the numeral of an integer: a minus sign if it is negative, and the digits of its size
abbrev pub decimal_of : ℤ → List ℕ
decimal_of (pos n) = digits_of n
decimal_of (negsuc n) = 45 ∷ digits_of (suc n)

-- the most bytes that the numeral of a number of 64 bits has
abbrev pub longest : ℕ
longest = 20

-- bytes are z as a field: its numeral and nothing else, read back as z, not empty, short, and in need of no quotes
pub record Writes (z : ℤ) (bs : List ℕ) : Type 0 where
  pub exact : bs ≡ decimal_of z
  pub reads : signed_in bs ≡ Some z
  pub number : (n : ℕ) → z ≡ pos n → n < 10 ^ most_digits → number_in bs ≡ Some n
  pub some : 1 ≤ length bs
  pub most : length bs ≤ longest
  pub plain : list_all plain_byte bs ≡ true
