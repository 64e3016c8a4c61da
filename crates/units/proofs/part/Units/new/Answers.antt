use Rattle.std.proofs.Common.{◌≡◌, true, None, refl}
use Rattle.std.proofs.lemmas.List.Elements.{All-replicate}
use Rattle.units.specs.Unit.{unit_filed}
use Rattle.units.proofs.part.Units.new.Goals as goal

pub invariant_of-result-clause-filed : goal.invariant_of-result-clause-filed
invariant_of-result-clause-filed c = All-replicate (λ u. unit_filed u ≡ true) 32 None refl
