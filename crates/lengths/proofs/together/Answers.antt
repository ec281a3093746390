use native.Mathlib.Omega.{arith}
use Rattle.lengths.proofs.Laws.{length-least}
use Rattle.lengths.proofs.together.Goals as goal

pub overflow_add-result : goal.overflow_add-result
overflow_add-result c =
    record { fits = omega (arith, length-least c.args.a 64 (omega arith), length-least c.args.b 64 (omega arith)) }
