use Rattle.std.proofs.Common.{refl, rules}
use Rattle.desk.proofs.Serving.{turn_more, turn_reply, turn_fault, continues, turns_within}
use Rattle.desk.proofs.service.Desk.take_in.Goals as goal

pub returns-in-Ok-More : goal.returns-in-Ok-More
returns-in-Ok-More c =
    let turned = turn_more c.args.self.now _ c.args.part.now c.read-used.result c.read-used.new.self refl c.read-used.ensures
    (search rules) refl in
    record { turn = turned; law = continues c.args.self.now _ c.args.part.now _ turned; bounds = turns_within c.args.self.now _ c.args.part.now _ turned }

pub returns-in-Ok-Record : goal.returns-in-Ok-Record
returns-in-Ok-Record c =
    let turned = turn_reply c.args.self.now c.reply.new.self c.args.part.now c.read-used.result c.read-used.new.self c.reply.ensures.reader c.read-used.ensures
    c.reply.result (search rules) c.reply.ensures.replied in
    record { turn = turned; law = continues c.args.self.now c.reply.new.self c.args.part.now _ turned; bounds = turns_within c.args.self.now c.reply.new.self c.args.part.now _ turned }

pub returns-in-Err : goal.returns-in-Err
returns-in-Err c =
    let turned = turn_fault c.args.self.now _ c.args.part.now c.read-used.result c.read-used.new.self refl c.read-used.ensures
    c.in-Err.fault c.from.result c.from.ensures c.in-Err.is refl in
    record { turn = turned; law = continues c.args.self.now _ c.args.part.now _ turned; bounds = turns_within c.args.self.now _ c.args.part.now _ turned }
