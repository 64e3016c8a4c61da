-- Which call a record asks for.
use Rattle.std.specs.Prelude.{ℕ, cond, List, length, Some, None, Option, option_and_then, ◌==◌}
use Rattle.std.specs.List.{slice_get}
use Rattle.records.specs.Numbers.{number_in}
use Rattle.desk.specs.Words.{word_in}
use Rattle.desk.specs.declared.call.Call.{Call}
use Rattle.desk.specs.declared.call.Call.TheVariants.{Account}
use Rattle.desk.specs.declared.word.Word.{Word}
use Rattle.desk.specs.declared.word.Word.TheVariants.{Account as account}

-- the number in the field at a place, if there is a field and it holds one
abbrev pub input_in : List (List ℕ) → ℕ → Option ℕ
input_in fields place = option_and_then number_in (slice_get fields place)

-- what a record whose word is `account` asks for: it has an account number and a flag, and nothing more
abbrev pub account_in : List (List ℕ) → Option Call
account_in fields =
    cond (length fields == 3)
    (option_and_then (λ number. option_and_then (λ flag. Some (Account (record { 0 = number }) flag)) (input_in fields 2)) (input_in fields 1))
    None

-- what a record asks for, by its word
abbrev pub by_word : List (List ℕ) → Word → Option Call
by_word fields account = account_in fields

-- what a record asks for; its word is its first field
abbrev pub call_in : List (List ℕ) → Option Call
call_in fields = option_and_then (λ field. option_and_then (by_word fields) (word_in field)) (slice_get fields 0)

-- the word of a call
abbrev pub word_of : Call → Word
word_of (Account number flag) = account
