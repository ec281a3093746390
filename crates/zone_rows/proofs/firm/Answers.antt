use mathlib.Core.Path.{refl, sym, ◌∙◌}
use Rattle.constants.specs.Constants.{constant_of}
use Rattle.row_sums.specs.Sides.{sides_of}
use Rattle.row_sums.proofs.Laws.{constant, plus-is}
use Rattle.zone_rows.proofs.firm.Goals as goal

pub returns : goal.returns
unfolding sides_of constant_of
returns c =
    let n = c.args.case.now.tables.laid_out.counts ∙ sym c.args.case.now.same_counts in
    rw n
    (constant _ _ _ c.with_constant.ensures (rw n at c.firm_constant.ensures)
    (plus-is _ c.add_product-above.ensures c.credit_sum-credit.ensures refl c.by_year_zone.ensures.0) c.zero.ensures)
