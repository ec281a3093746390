use Rattle.column_terms.proofs.Sound.{fuel-below}
use Rattle.column_terms.proofs.readers.fuel_of.Goals as goal

pub returns : goal.returns
returns c = let e = c.by_plant.ensures.0 in (e, rw e (fuel-below c.args.tested.now c.requires))
