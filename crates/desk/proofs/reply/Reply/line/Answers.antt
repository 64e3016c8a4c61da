use Rattle.std.proofs.Common.{◌≡◌, refl, arith, ap, ◌∙◌, take, drop, w64, SFits, rules}
use Rattle.std.proofs.lemmas.Grind.{common_steps}
use Rattle.std.proofs.lemmas.Int.{to_z-of_z}
use Rattle.records.specs.Numbers.{decimal_of}
use Rattle.desk.proofs.Lines.{always_written, spelled_out, word_few, word_plain, short_numeral, shows_reply}
use Rattle.desk.proofs.reply.Reply.line.Goals as goal

pub unwrap-len-requires : goal.unwrap-len-requires
unwrap-len-requires c =
    let word = c.args.self.word in
    let bytes = c.shown.result.now in
    always_written bytes (drop c.new-refusal.result.start c.new-refusal.result.bytes) (drop c.new-first.result.start c.new-first.result.bytes) (drop c.new-second.result.start c.new-second.result.bytes)
    c.as_bytes.result.now c.as_bytes-2.result.now c.as_bytes-3.result.now c.as_bytes.ensures c.as_bytes-2.ensures c.as_bytes-3.ensures
    _ _ c.write_record.result refl (word_few word bytes c.shown.ensures) (word_plain word bytes c.shown.ensures)
    (short_numeral c.new-refusal.result) (short_numeral c.new-first.result) (short_numeral c.new-second.result) c.write_record.ensures

pub returns : goal.returns
returns c =
    let row = c.from-row.result in
    let first_fits : SFits w64 row.first = search rules in
    let refusal_fits : SFits w64 c.from.result = search rules in
    let second_fits : SFits w64 row.second = search rules in
    let copied : c.try_extend_from_slice.new.self.items ≡ take c.unwrap-len.result c.write_record.new.out = grind (arith, common_steps) in
    let spelled = spelled_out c.shown.result.now (drop c.new-refusal.result.start c.new-refusal.result.bytes) (drop c.new-first.result.start c.new-first.result.bytes) (drop c.new-second.result.start c.new-second.result.bytes)
    c.as_bytes.result.now c.as_bytes-2.result.now c.as_bytes-3.result.now c.as_bytes.ensures c.as_bytes-2.ensures c.as_bytes-3.ensures
    _ c.write_record.new.out _ c.write_record.result c.unwrap-len.result c.write_record.ensures c.unwrap-len.ensures
    copied in
    shows_reply c.args.self row _ c.shown.result.now (drop c.new-refusal.result.start c.new-refusal.result.bytes) (drop c.new-first.result.start c.new-first.result.bytes) (drop c.new-second.result.start c.new-second.result.bytes)
    spelled c.from-row.ensures c.shown.ensures
    (c.new-refusal.ensures.exact ∙ ap decimal_of (to_z-of_z w64 c.from.result refusal_fits ∙ c.from.ensures))
    (c.new-first.ensures.exact ∙ ap decimal_of (to_z-of_z w64 row.first first_fits))
    (c.new-second.ensures.exact ∙ ap decimal_of (to_z-of_z w64 row.second second_fits))
