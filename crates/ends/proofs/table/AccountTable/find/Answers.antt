-- The chain finds the first place, which is where the account stands.
use Rattle.std.proofs.Common.{◌≡◌, subst, sym, rules, tests}
use Rattle.std.specs.List.{position}
use Rattle.std.proofs.lemmas.Iterator.{YieldsList-from_slice}
use Rattle.std.proofs.lemmas.Iterator.Search.{position_from_yields_List}
use Rattle.ends.specs.Accounts.{has_number}
use Rattle.ends.specs.Places.{Stands}
use Rattle.ends.specs.Tables.{listed}
use Rattle.ends.proofs.Standing.{stands_by_position}
use Rattle.ends.proofs.table.AccountTable.find.Goals as goal

pub returns : goal.returns
returns c =
    let t = c.args.self.now in
    let n = c.args.number.0 in
    let is : c.position.result ≡ position (has_number n) (listed t) =
    position_from_yields_List (has_number n) _ _ c.position.result c.position.ensures.ran (YieldsList-from_slice (listed t) cc) (λ x b q k. search (rules, tests)) in
    subst (Stands t n) (sym is) (stands_by_position t n)
