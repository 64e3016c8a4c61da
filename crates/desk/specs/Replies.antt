-- What a record is answered, and the record that says so.
use Rattle.std.specs.Prelude.{◌≡◌, ℕ, List, [], ◌∷◌, ◌++◌, pos, Some, None, Err, codes, Option}
use Rattle.measures.specs.Answers.{row_of}
use Rattle.measures.specs.declared.refusal.Refusal.{Refusal}
use Rattle.measures.specs.declared.refusal.Refusal.TheVariants.{BadText, TooLong}
use Rattle.records.specs.Grammar.{Record}
use Rattle.records.specs.Numbers.{decimal_of}
use Rattle.records.specs.Writing.{whole}
use Rattle.records.specs.declared.fault.Fault.{Fault}
use Rattle.records.specs.declared.fault.Fault.TheVariants.{BadText as bad_text, TooLong as too_long}
use Rattle.desk.specs.Words.{name_of}
use Rattle.desk.specs.declared.reply.Reply.{Reply}
use Rattle.desk.specs.declared.word.Word.{Word}

-- the refusal of a faulty text
abbrev pub refusal_of : Fault → Refusal
refusal_of bad_text = BadText
refusal_of too_long = TooLong

-- the reply to a record that asks for no call
abbrev pub unread : Refusal → Reply
unread refusal = record { word = None; answer = Err refusal }

-- the word that a reply shows: a question mark where there is none
abbrev pub word_shown : Option Word → List ℕ
word_shown None = codes "?"
word_shown (Some word) = name_of word

-- the fields of the record that shows a reply: the word, the refusal's number or 0, and two values
abbrev pub fields_shown : Reply → List (List ℕ)
fields_shown reply =
    let row = row_of reply.answer in
    word_shown reply.word ∷ (decimal_of (pos row.refusal) ∷ (decimal_of row.first ∷ (decimal_of row.second ∷ [])))

-- a line shows a reply: it is the reply's record with its CRLF, which reads back equal
pub record Shows (reply : Reply) (line : List ℕ) : Type 0 where
  pub exact : line ≡ whole (fields_shown reply)
  pub reads_back : (rest : List ℕ) → Record (line ++ rest) (fields_shown reply) rest
