-- The shares of the rule are fair.
use Rattle.std.proofs.Common.{◌≡◌, ◌<◌, map, sym, subst, arith}
use Rattle.std.proofs.lemmas.Grind.{common_steps}
use Rattle.split.specs.Fairness.{Close, NoneForNone, Whole}
use Rattle.split.specs.Shares.{amounts, shares_of}
use Rattle.split.proofs.Fairness.{close, none_for_none, whole}
use Rattle.split.proofs.division.Division.fill.Goals as goal

pub returns : goal.returns
returns g c =
    let amount = c.args.self.amount.0 in
    let ws = map g.T.Weighted.weighs c.args.entries.now in
    let some = subst (λ n. 0 < n) c.requires.totalled c.args.self.some in
    let are : amounts c.loop-i.shares ≡ shares_of amount ws = grind (arith, common_steps) in
    record {
      split = are;
      whole = subst (Whole amount) (sym are) (whole amount ws some);
      close = subst (Close amount ws) (sym are) (close amount ws some);
      none = subst (NoneForNone ws) (sym are) (none_for_none amount ws some);
    }
