-- The weights passed and those to come are the total, and the shares written and those to come are all the shares.
use Rattle.std.proofs.Common.{◌≡◌, ◌+◌, ◌++◌, drop, map, take, sum_by}
use Rattle.split.specs.Shares.{amounts, shares_from, shares_of}
use Rattle.split.proofs.division.Division.fill.Given as goal

abbrev pub invariant-loop-i : goal.invariant-loop-i
invariant-loop-i g l =
    let weighs = g.T.Weighted.weighs in
    let come = shares_from l.self.amount.0 l.self.total l.before (map weighs (drop l.i l.entries)) in
    (l.before + sum_by weighs (drop l.i l.entries) ≡ l.self.total)
    × (amounts (take l.i l.shares) ++ come ≡ shares_of l.self.amount.0 (map weighs l.entries))
