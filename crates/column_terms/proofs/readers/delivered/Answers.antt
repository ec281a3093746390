use native.Mathlib.Omega.{arith}
use Rattle.column_terms.proofs.Sound.{few-loss}
use Rattle.column_terms.proofs.readers.delivered.Goals as goal

pub overflow_sub-result : goal.overflow_sub-result
overflow_sub-result c = omega (arith, few-loss c.args.tested.now c.requires.0 c.requires.1.0 c.requires.1.1)
