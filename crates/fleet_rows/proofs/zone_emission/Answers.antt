use mathlib.Core.Path.{◌∙◌}
use Rattle.model.specs.Families.{zone_emission}
use Rattle.energy.proofs.Laws.{zone-energy}
use Rattle.constants.specs.Constants.{constant_of}
use Rattle.row_sums.specs.Sides.{sides_of}
use Rattle.row_sums.proofs.Laws.{limit}
use Rattle.fleet_rows.proofs.zone_emission.Goals as goal

pub returns : goal.returns
unfolding sides_of constant_of zone_emission
returns c x n =
    limit _ _ c.at_most.ensures c.zone_emission_constant.ensures
    (c.emitted_in.ensures ∙ zone-energy n c.args.tables.now.laid_out.counts c.requires.0 _)
