use mathlib.Core.Path.{sym}
use native.Mathlib.Omega.{arith}
use Rattle.lengths.proofs.Laws.{product-below, product-beyond}
use Rattle.capped.specs.Cap.{limit}
use Rattle.capped.proofs.Laws.{cap-high}
use Rattle.capped.proofs.long_product.Goals as goal

pub overflow_mul-a : goal.overflow_mul-a
overflow_mul-a c = record { fits = omega (arith, product-below c.args.a c.args.b 64 (omega arith)) }

pub returns : goal.returns
unfolding limit
returns c = sym (cap-high _ (product-beyond _ _ (omega arith) (omega arith) (omega arith)))
