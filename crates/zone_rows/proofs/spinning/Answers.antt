use mathlib.Core.Path.{refl, sym, ◌∙◌}
use Prim.Native.Nat.{◌*◌}
use lib.Dec.{eqb}
use Rattle.sums.specs.Sum.{on}
use Rattle.model.specs.Data.{read, zone, is_vre, err}
use Rattle.constants.specs.Constants.{constant_of}
use Rattle.row_sums.specs.Sides.{sides_of}
use Rattle.row_sums.proofs.Laws.{constant, plus-is, join_is}
use Rattle.zone_rows.proofs.Laws.{part-sum}
use Rattle.zone_rows.proofs.spinning.Goals as goal

pub returns : goal.returns
unfolding sides_of constant_of
returns c =
    let same = c.args.case.now.same_counts in
    let n = c.args.case.now.tables.laid_out.counts ∙ sym same in
    let hs = c.requires.1.1.1 in
    let D = read c.args.case.now.tables.list.now in
    let held = part-sum c.requires.0.1 same hs (λ g v. on (eqb (zone D g) c.args.z) (1000 * v)) c.zone_sum-held.ensures in
    let with-short = plus-is _ c.add_product-with_short.ensures held refl c.by_year_zone_slice.ensures.0 in
    let windy = part-sum c.requires.0.0 same hs (λ g v. on (eqb (zone D g) c.args.z) (on (is_vre D g) (err D * v))) (c.vre_sum.ensures ∙ rw c.single-err.ensures.0) in
    rw n
    (constant _ _ _ c.with_constant.ensures (rw n at c.spinning_constant.ensures)
    (join_is _ _ c.join-above.ensures with-short c.lines_into.ensures)
    (join_is _ _ c.join-below.ensures c.flows.ensures windy))
