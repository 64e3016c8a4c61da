-- The words that name the calls in a record.
use Rattle.std.specs.Prelude.{ℕ, cond, List, Some, None, codes, Option}
use Rattle.std.specs.Str.{bytes_eq}
use Rattle.desk.specs.declared.word.Word.{Word}
use Rattle.desk.specs.declared.word.Word.TheVariants.{Account}

-- a word as it stands in a record
abbrev pub name_of : Word → List ℕ
name_of Account = codes "account"

-- the word that a field holds, if it holds one
abbrev pub word_in : List ℕ → Option Word
word_in field = cond (bytes_eq field (name_of Account)) (Some Account) None
