-- The line of a word and three numbers can always be written.
use Rattle.std.proofs.Common.{◌≡◌, ℕ, ◌≤◌, true, List, [], ◌∷◌, ◌++◌, length, take, drop, pos, Some, None, Ok, Err, Option, Result, IsOk, sym, refl, ap, ◌∙◌, subst, arith}
use Rattle.std.proofs.lemmas.List.{length-append, take_at}
use Rattle.std.specs.List.{list_all}
use Rattle.std.proofs.lemmas.Option.{none-some}
use Rattle.std.proofs.lemmas.Bool.{and_from}
use Rattle.records.specs.Grammar.{plain_byte, Record}
use Rattle.records.proofs.Lengths.{length_spelled_plain, length_whole}
use Rattle.records.proofs.Measures.{plain_is_text}
use Rattle.records.proofs.Reasons.{writable}
use Rattle.records.specs.Writing.{spelled, comma_spelled, line, whole, all_text, unwritable, Refused, Written, Wrote}
use Rattle.records.specs.declared.writer.Unwritable.{Unwritable}
use Rattle.records.specs.Numbers.{decimal_of}
use Rattle.measures.specs.Answers.{row_of}
use Rattle.measures.specs.declared.answer.Row.{Row}
use Rattle.records.specs.declared.numeral.Decimal.{Decimal}
use Rattle.desk.specs.Replies.{word_shown, fields_shown, Shows}
use Rattle.desk.specs.declared.reply.Reply.{Reply}
use Rattle.desk.specs.declared.word.Word.{Word}
use Rattle.desk.specs.declared.word.Word.TheVariants.{Account}

-- a field short enough for an answer, and in need of no quotes
pub record Short (field : List ℕ) : Type 0 where
  pub few : length field ≤ 20
  pub plain : list_all plain_byte field ≡ true

-- a line is the record of these four fields, which reads back equal
pub record Spells (line word refusal first second : List ℕ) : Type 0 where
  pub exact : line ≡ whole (word ∷ (refusal ∷ (first ∷ (second ∷ []))))
  pub reads_back : (rest : List ℕ) → Record (line ++ rest) (word ∷ (refusal ∷ (first ∷ (second ∷ [])))) rest

pub line_writable : (word refusal first second : List ℕ) → length word ≤ 8 → list_all plain_byte word ≡ true → Short refusal → Short first → Short second
    → unwritable (word ∷ (refusal ∷ (first ∷ (second ∷ [])))) 80 ≡ None
line_writable w r f s few plain hr hf hs =
    let text : all_text (w ∷ (r ∷ (f ∷ (s ∷ [])))) ≡ true =
    and_from _ _ (plain_is_text w plain) (and_from _ _ (plain_is_text r hr.plain) (and_from _ _ (plain_is_text f hf.plain) (and_from _ _ (plain_is_text s hs.plain) refl))) in
    let short : length (line (w ∷ (r ∷ (f ∷ (s ∷ []))))) ≤ 71 =
    omega (
      arith,
      length_spelled_plain w plain,
      length_spelled_plain r hr.plain,
      length_spelled_plain f hf.plain,
      length_spelled_plain s hs.plain,
      hr.few,
      hf.few,
      hs.few,
      length-append (spelled w) (comma_spelled r ++ (comma_spelled f ++ (comma_spelled s ++ []))),
      length-append (comma_spelled r) (comma_spelled f ++ (comma_spelled s ++ [])),
      length-append (comma_spelled f) (comma_spelled s ++ []),
      length-append (comma_spelled s) [],
    ) in
    writable (w ∷ (r ∷ (f ∷ (s ∷ [])))) 80 (omega arith) text (omega arith) (omega arith) (omega (arith, length_whole (w ∷ (r ∷ (f ∷ (s ∷ []))))))

-- what the writer answers of such a line

module _ (word refusal first second refusal' first' second' : List ℕ) (same_refusal : refusal' ≡ refusal) (same_first : first' ≡ first) (same_second : second' ≡ second) where
  same_fields : (word ∷ (refusal' ∷ (first' ∷ (second' ∷ [])))) ≡ (word ∷ (refusal ∷ (first ∷ (second ∷ []))))
  same_fields = cc

  never_refused : (before after : List ℕ) (why : Unwritable) → length before ≡ 80 → length word ≤ 8 → list_all plain_byte word ≡ true → Short refusal → Short first → Short second
      → Refused (word ∷ (refusal' ∷ (first' ∷ (second' ∷ [])))) before why after → ⊥
  never_refused before after why room few plain hr hf hs r =
      let none : unwritable (word ∷ (refusal ∷ (first ∷ (second ∷ [])))) 80 ≡ None = line_writable word refusal first second few plain hr hf hs in
      let some : unwritable (word ∷ (refusal ∷ (first ∷ (second ∷ [])))) 80 ≡ Some why =
      ap (λ x. unwritable x 80) (sym same_fields) ∙ ap (unwritable (word ∷ (refusal' ∷ (first' ∷ (second' ∷ []))))) (sym room) ∙ r.reason in
      none-some why (sym none ∙ some)

  pub always_written : (before after : List ℕ) (r : Result ℕ Unwritable) → length before ≡ 80 → length word ≤ 8 → list_all plain_byte word ≡ true → Short refusal → Short first → Short second
      → Wrote (word ∷ (refusal' ∷ (first' ∷ (second' ∷ [])))) before r after → IsOk r
  always_written before after (Ok n) room few plain hr hf hs h = refl
  always_written before after (Err why) room few plain hr hf hs h = absurd (never_refused before after why room few plain hr hf hs h)

  pub spelled_out : (before after bytes : List ℕ) (r : Result ℕ Unwritable) (n : ℕ) → Wrote (word ∷ (refusal' ∷ (first' ∷ (second' ∷ [])))) before r after → r ≡ Ok n → bytes ≡ take n after
      → Spells bytes word refusal first second
  spelled_out before after bytes r n h is shown =
      let fields = word ∷ (refusal' ∷ (first' ∷ (second' ∷ []))) in
      let w : Written fields before n after = subst (λ x. Wrote fields before x after) is h in
      record {
        exact = shown ∙ ap (take n) w.buffer ∙ take_at (whole fields) (drop n before) n (sym w.count) ∙ ap whole same_fields;
        reads_back = λ rest. subst (λ x. Record (x ++ rest) (word ∷ (refusal ∷ (first ∷ (second ∷ [])))) rest) (sym shown) (subst (λ x. Record (take n after ++ rest) x rest) same_fields (w.reads_back rest));
      }

-- every word is short and plain
pub word_few : (word : Option Word) (bytes : List ℕ) → bytes ≡ word_shown word → length bytes ≤ 8
word_few None bytes e = omega (arith, ap length e)
word_few (Some Account) bytes e = omega (arith, ap length e)

pub word_plain : (word : Option Word) (bytes : List ℕ) → bytes ≡ word_shown word → list_all plain_byte bytes ≡ true
word_plain None bytes e = ap (list_all plain_byte) e
word_plain (Some Account) bytes e = ap (list_all plain_byte) e

-- every numeral is short and plain
pub short_numeral : (d : Decimal) → Short (drop d.start d.bytes)
short_numeral d = record { few = d.few; plain = d.plain }

pub shows_reply : (reply : Reply) (row : Row) (line word refusal first second : List ℕ) → Spells line word refusal first second → row ≡ row_of reply.answer
    → word ≡ word_shown reply.word → refusal ≡ decimal_of (pos row.refusal) → first ≡ decimal_of row.first → second ≡ decimal_of row.second → Shows reply line
shows_reply reply row line word refusal first second s row_is word_is refusal_is first_is second_is =
    let fields : (word ∷ (refusal ∷ (first ∷ (second ∷ [])))) ≡ fields_shown reply =
    ap (λ x. x ∷ (refusal ∷ (first ∷ (second ∷ [])))) word_is
    ∙ ap (λ x. word_shown reply.word ∷ (x ∷ (first ∷ (second ∷ [])))) (refusal_is ∙ ap (λ r. decimal_of (pos r.refusal)) row_is)
    ∙ ap (λ x. word_shown reply.word ∷ (decimal_of (pos (row_of reply.answer).refusal) ∷ (x ∷ (second ∷ [])))) (first_is ∙ ap (λ r. decimal_of r.first) row_is)
    ∙ ap (λ x. word_shown reply.word ∷ (decimal_of (pos (row_of reply.answer).refusal) ∷ (decimal_of (row_of reply.answer).first ∷ (x ∷ [])))) (second_is ∙ ap (λ r. decimal_of r.second) row_is) in
    record {
      exact = s.exact ∙ ap whole fields;
      reads_back = λ rest. subst (λ x. Record (line ++ rest) x rest) fields (s.reads_back rest);
    }
