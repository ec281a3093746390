use Rattle.column_terms.proofs.Sound.{zone-below}
use Rattle.column_terms.proofs.readers.zone_of.Goals as goal

pub returns : goal.returns
returns c = let e = c.by_plant.ensures.0 in (e, rw e (zone-below c.args.tested.now c.requires))
