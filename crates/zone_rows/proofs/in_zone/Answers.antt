use mathlib.Core.Path.{refl}
use Prim.Native.Nat.{◌*◌}
use lib.Dec.{eqb}
use Rattle.sums.specs.Sum.{on}
use Rattle.model.specs.Data.{read, zone}
use Rattle.row_sums.proofs.Laws.{plus-is, join_is}
use Rattle.zone_rows.proofs.Laws.{part-sum}
use Rattle.zone_rows.proofs.in_zone.Goals as goal

pub returns : goal.returns
returns c k m part links =
    let D = read c.args.case.now.tables.list.now in
    let plants = part-sum part c.args.case.now.same_counts c.requires.1 (λ g v. on (eqb (zone D g) c.args.z) (1000 * v)) c.zone_sum-plants.ensures in
    plus-is _ c.add_product.ensures (join_is _ _ c.join.ensures plants links) refl c.by_year_zone_slice.ensures.0
