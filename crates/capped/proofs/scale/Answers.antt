use mathlib.Core.Path.{◌∙◌, sym}
use native.Mathlib.Omega.{arith}
use Rattle.capped.specs.Cap.{times}
use Rattle.capped.proofs.Laws.{zero-scale, times-over}
use Rattle.capped.proofs.scale.Goals as goal

pub returns-then-n-eq0 : goal.returns-then-n-eq0
returns-then-n-eq0 c = zero-scale _ _ (omega arith)

pub returns-in_err-s : goal.returns-in_err-s
returns-in_err-s c = c.from_residual.ensures ∙ rw c.in_err-s.was (sym (times-over _ c.if-n-eq0.false))

pub returns : goal.returns
unfolding times
returns c = c.product.ensures ∙ rw (c.in_ok-s.was)
