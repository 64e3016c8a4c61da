-- The lines that are left name no account twice exactly if all the lines do not.
use Rattle.std.proofs.Common.{◌≡◌, length}
use Rattle.forms.specs.Lines.{none_twice}
use Rattle.forms.proofs.naming.are_distinct.Given as goal

abbrev pub invariant-loop-rest : goal.invariant-loop-rest
invariant-loop-rest l = none_twice l.lines ≡ none_twice l.rest

abbrev pub decreases-loop-rest : goal.decreases-loop-rest
decreases-loop-rest l = length l.rest
