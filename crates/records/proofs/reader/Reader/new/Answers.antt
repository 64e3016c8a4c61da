use Rattle.records.proofs.Unique.{one_record, one_fault}
use Rattle.records.proofs.reader.Reader.new.Goals as goal

pub returns-clause-reading : goal.returns-clause-reading
returns-clause-reading c = (one_record, one_fault)
