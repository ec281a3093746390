use native.Mathlib.Omega.{arith}
use mathlib.Core.Path.{refl, ◌∙◌}
use Rattle.capped.specs.Cap.{limit, plus}
use Rattle.capped.proofs.Laws.{high-add}
use borrow.Author.Rules.{rules}
use Rattle.capped.proofs.add.Goals as goal

pub returns-in_err-s : goal.returns-in_err-s
unfolding plus
returns-in_err-s c = search rules

pub returns-in_err-checked_add : goal.returns-in_err-checked_add
unfolding limit
returns-in_err-checked_add c = c.from_residual-in_err-checked_add.ensures ∙ high-add _ c.in_ok-s.was (omega (arith, c.in_err-checked_add.ensures))

pub returns : goal.returns
unfolding plus
returns c = c.of.ensures ∙ rw (c.in_ok-checked_add.ensures.1, c.in_ok-s.was) refl
