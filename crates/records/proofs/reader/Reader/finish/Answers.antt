use Rattle.std.proofs.Common.{refl}
use Rattle.records.proofs.Readers.{finishes_ready}
use Rattle.records.proofs.reader.Reader.finish.Goals as goal

pub returns : goal.returns
returns c = finishes_ready c.args.self.now c.ready.new.self _ c.finish-event.result c.in_ok-ready.ensures refl c.finish-event.ensures
