use mathlib.Core.Path.{ap}
use Prim.Native.Nat.{ℕ, ◌+◌}
use native.Mathlib.Omega.{arith}
use Rattle.zone_constants.proofs.Laws.{few-prm}
use Rattle.zone_constants.proofs.margin_of.Goals as goal

pub returns : goal.returns
returns c =
    let n = c.args.tested.now in
    (ap (λ (v : ℕ). 1000 + v) c.by_zone.ensures.0, omega (arith, c.by_zone.ensures.0, few-prm n.tables.now.laid_out n.tested c.requires))
