use native.Mathlib.Omega.{arith}
use Rattle.lengths.proofs.Laws.{leading-bits}
use Rattle.lengths.proofs.bit_length.Goals as goal

pub returns : goal.returns
returns c = omega (arith, leading-bits c.args.n (omega arith))
