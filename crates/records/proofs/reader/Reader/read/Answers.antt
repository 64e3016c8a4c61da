use Rattle.std.proofs.Common.{refl}
use Rattle.records.proofs.Readers.{reads_ready}
use Rattle.records.proofs.reader.Reader.read.Goals as goal

pub returns : goal.returns
returns c = reads_ready c.args.self.now c.ready.new.self _ c.args.part.now c.read-progress.result c.in_default.ensures refl c.read-progress.ensures
