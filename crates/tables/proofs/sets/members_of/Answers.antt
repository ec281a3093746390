use mathlib.Core.Path.{refl}
use native.Mathlib.Nat.{mul-le-mul}
use Rattle.tables.proofs.sets.members_of.Goals as goal

pub returns : goal.returns
returns c = (refl, mul-le-mul (mul-le-mul (mul-le-mul c.requires.few_years c.requires.few_firsts) c.requires.few_seconds) c.requires.few_slices)
