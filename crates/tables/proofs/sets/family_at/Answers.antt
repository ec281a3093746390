use mathlib.Core.Path.{refl}
use Rattle.model.specs.Families.{family_of}
use Rattle.tables.proofs.sets.family_at.Goals as goal

pub returns : goal.returns
unfolding family_of
returns c = refl
