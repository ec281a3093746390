use Rattle.constants.specs.Constants.{constant_of}
use Rattle.row_sums.specs.Sides.{sides_of}
use Rattle.row_sums.proofs.Laws.{constant}
use Rattle.zone_rows.proofs.balance.Goals as goal

pub returns : goal.returns
unfolding sides_of constant_of
returns c =
    rw (c.args.case.now.tables.laid_out.counts, ← c.args.case.now.same_counts)
    (constant _ _ _ c.with_constant.ensures c.balance_constant.ensures
    (c.in_zone-above.ensures _ _ c.requires.0.1.0 c.received-arrived.ensures)
    (c.in_zone-below.ensures _ _ c.requires.0.1.1 c.flows-sent.ensures))
