use mathlib.Core.Path.{◌∙◌}
use Rattle.capped.specs.Cap.{times_both}
use borrow.Author.Rules.{rules}
use Rattle.capped.proofs.multiply.Goals as goal

pub returns-in_err-s-in-None : goal.returns-in_err-s-in-None
unfolding times_both
returns-in_err-s-in-None c = search rules

pub returns-in-Some : goal.returns-in-Some
unfolding times_both
returns-in-Some c = c.scale.ensures ∙ rw c.in-Some.is

pub returns-in_ok-s-in-None : goal.returns-in_ok-s-in-None
unfolding times_both
returns-in_ok-s-in-None c = c.scale-in-None.ensures ∙ rw (c.in_ok-s-in-None.was, c.in-None.is)
