-- Which notice moves which standing, and to where.
use Rattle.std.specs.Prelude.{ℕ, cond, Some, None, Option, ◌==◌}
use Rattle.measures.specs.declared.number.Day.{Day}
use Rattle.tariff.specs.declared.standing.Standing.{Standing}
use Rattle.tariff.specs.declared.standing.Standing.TheVariants.{Waiting, Active, Suspended, Ended}
use Rattle.tariff.specs.declared.standing.Notice.{Notice}
use Rattle.tariff.specs.declared.standing.Notice.TheVariants.{Authorised, NonCompliant, Remedied, Revoked}

-- the notice of a number
abbrev pub notice_in : ℕ → Option Notice
notice_in n =
    cond (n == 1) (Some Authorised) (
    cond (n == 2) (Some NonCompliant) (
    cond (n == 3) (Some Remedied) (
    cond (n == 4) (Some Revoked) None)))

-- the standing that a notice moves a unit to; none where the unit's standing does not allow it
abbrev pub moved : Standing → Notice → Day → Option Standing
moved Waiting Authorised day = Some (Active day)
moved Waiting NonCompliant day = None
moved Waiting Remedied day = None
moved Waiting Revoked day = Some Ended
moved (Active effective) Authorised day = None
moved (Active effective) NonCompliant day = Some (Suspended effective)
moved (Active effective) Remedied day = None
moved (Active effective) Revoked day = Some Ended
moved (Suspended effective) Authorised day = None
moved (Suspended effective) NonCompliant day = None
moved (Suspended effective) Remedied day = Some (Active effective)
moved (Suspended effective) Revoked day = Some Ended
moved Ended Authorised day = None
moved Ended NonCompliant day = None
moved Ended Remedied day = None
moved Ended Revoked day = None
