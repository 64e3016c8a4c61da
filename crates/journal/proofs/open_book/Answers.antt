use Rattle.std.proofs.Common.{refl}
use Rattle.journal.specs.Worlds.{opening}
use Rattle.journal.proofs.Keeping.{lifelong}
use Rattle.journal.proofs.open_book.Goals as goal

pub returns : goal.returns
returns c = record { opened = c.empty_book.ensures; reached = λ ends. opening c.empty_book.result ends c.empty_book.ensures (λ end account. refl); law = lifelong }
