-- The ranges of rates, days, and the numbers that name accounts, units and classes.
use Rattle.std.specs.Prelude.{ℕ, Bool}
use Rattle.std.specs.Int.{is_in_range}

-- the highest rate that an operator may give: 100 cents per kilowatt-hour
abbrev pub highest_rate : ℕ
highest_rate = 100000

-- whether an operator may give this rate
abbrev pub is_rate : ℕ → Bool
is_rate n = is_in_range 0 highest_rate n

-- the last day; day 0 is 1 January 2018
abbrev pub last_day : ℕ
last_day = 36524

abbrev pub is_day : ℕ → Bool
is_day n = is_in_range 0 last_day n

-- the last account number; the first is 1
abbrev pub last_account : ℕ
last_account = 99999999999

abbrev pub is_account : ℕ → Bool
is_account n = is_in_range 1 last_account n

-- the book has places for 32 units, numbered from 0
abbrev pub last_unit : ℕ
last_unit = 31

abbrev pub is_unit : ℕ → Bool
is_unit n = is_in_range 0 last_unit n

-- there are eight rate classes, numbered from 0
abbrev pub last_class : ℕ
last_class = 7

abbrev pub is_class : ℕ → Bool
is_class n = is_in_range 0 last_class n
