use native.Mathlib.Omega.{arith}
use Rattle.zone_constants.proofs.Laws.{few-ee}
use Rattle.zone_constants.proofs.ee_of.Goals as goal

pub returns : goal.returns
returns c =
    let n = c.args.tested.now in
    (c.by_year_zone.ensures.0, omega (arith, c.by_year_zone.ensures.0, few-ee n.tables.now.laid_out n.tested c.requires.1 c.requires.0))
