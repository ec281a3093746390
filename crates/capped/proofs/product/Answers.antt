use mathlib.Core.Path.{sym, ◌∙◌}
use native.Mathlib.Nat.{le_trans}
use native.Mathlib.Omega.{arith}
use Rattle.lengths.proofs.Laws.{product-fits}
use Rattle.capped.specs.Cap.{straight}
use Rattle.capped.proofs.Laws.{cap-low, limit-least}
use borrow.Author.Tests.{leb-true}
use Rattle.capped.proofs.product.Goals as goal

pub overflow_mul-result : goal.overflow_mul-result
overflow_mul-result c = record { fits = omega (arith, product-fits c.args.a c.args.b (leb-true _ straight (sym c.lengths_fit.ensures ∙ c.if-lengths_fit.true))) }

pub returns-then-lengths_fit : goal.returns-then-lengths_fit
returns-then-lengths_fit c = sym (cap-low _ (le_trans (product-fits _ _ (leb-true _ straight (sym c.lengths_fit.ensures ∙ c.if-lengths_fit.true))) limit-least))
