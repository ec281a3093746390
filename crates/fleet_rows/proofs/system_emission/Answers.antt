use mathlib.Core.Path.{◌∙◌}
use Rattle.model.specs.Families.{system_emission}
use Rattle.energy.proofs.Laws.{system-energy}
use Rattle.constants.specs.Constants.{constant_of}
use Rattle.row_sums.specs.Sides.{sides_of}
use Rattle.row_sums.proofs.Laws.{limit}
use Rattle.fleet_rows.proofs.system_emission.Goals as goal

pub returns : goal.returns
unfolding sides_of constant_of system_emission
returns c x n =
    limit _ _ c.at_most.ensures c.system_emission_constant.ensures (c.emitted.ensures ∙ system-energy n c.args.tables.now.laid_out.counts c.requires)
