use Rattle.std.proofs.Common.{refl, rules}
use Rattle.desk.proofs.Serving.{end_none, end_reply, end_fault, concludes}
use Rattle.desk.proofs.service.Desk.finish.Goals as goal

pub returns-in-Ok-More : goal.returns-in-Ok-More
returns-in-Ok-More c =
    let ended = end_none c.args.self.now _ c.finish.result c.finish.new.self refl c.finish.ensures (search rules) refl in
    record { turn = ended; law = concludes c.args.self.now _ _ ended }

pub returns-in-Ok-Record : goal.returns-in-Ok-Record
returns-in-Ok-Record c =
    let ended = end_reply c.args.self.now c.reply.new.self c.finish.result c.finish.new.self c.reply.ensures.reader c.finish.ensures
    c.reply.result (search rules) c.reply.ensures.replied in
    record { turn = ended; law = concludes c.args.self.now c.reply.new.self _ ended }

pub returns-in-Err : goal.returns-in-Err
returns-in-Err c =
    let ended = end_fault c.args.self.now _ c.finish.result c.finish.new.self refl c.finish.ensures
    c.in-Err.fault c.from.result c.from.ensures c.in-Err.is refl in
    record { turn = ended; law = concludes c.args.self.now _ _ ended }
