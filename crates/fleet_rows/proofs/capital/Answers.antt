use Rattle.constants.specs.Constants.{constant_of}
use Rattle.row_sums.specs.Sides.{sides_of}
use Rattle.row_sums.proofs.Laws.{limit}
use Rattle.fleet_rows.proofs.capital.Goals as goal

pub returns : goal.returns
unfolding sides_of constant_of
returns c =
    let n = c.args.case.now.tables.laid_out.counts in
    rw (n, ← c.args.case.now.same_counts) (limit _ _ c.at_most.ensures c.capital_constant.ensures c.capital_sum.ensures)
