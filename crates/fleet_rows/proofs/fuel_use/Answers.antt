use mathlib.Core.Path.{◌∙◌}
use Rattle.model.specs.Families.{fuel_use}
use Rattle.energy.proofs.Laws.{fuel-energy}
use Rattle.constants.specs.Constants.{constant_of}
use Rattle.row_sums.specs.Sides.{sides_of}
use Rattle.row_sums.proofs.Laws.{limit}
use Rattle.fleet_rows.proofs.fuel_use.Goals as goal

pub returns : goal.returns
unfolding sides_of constant_of fuel_use
returns c x n =
    limit _ _ c.at_most.ensures c.fuel_use_constant.ensures
    (c.burned.ensures ∙ fuel-energy n c.args.tables.now.laid_out.counts c.requires.0 _ _)
