use mathlib.Core.Path.{◌∙◌}
use Rattle.capped.specs.Cap.{both}
use borrow.Author.Rules.{rules}
use Rattle.capped.proofs.join.Goals as goal

pub returns-in_err-t : goal.returns-in_err-t
unfolding both
returns-in_err-t c = search rules

pub returns : goal.returns
unfolding both
returns c = c.add.ensures ∙ rw (c.in_ok-t.was)
