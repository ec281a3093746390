use mathlib.Core.Path.{sym, ◌∙◌}
use Rattle.tables.proofs.Members.{family-box}
use Rattle.gap.specs.Signs.{walked_box}
use Rattle.gap.proofs.walked_box.Goals as goal

pub returns-then-has_constant : goal.returns-then-has_constant
unfolding walked_box
returns-then-has_constant c =
    rw (← c.has_constant.ensures, c.if-has_constant.true)
    (c.box_of.ensures.0 ∙ rw c.family_at.ensures (sym (family-box _ c.requires)))

pub returns : goal.returns
unfolding walked_box
returns c = rw (← c.has_constant.ensures, c.if-has_constant.false)
