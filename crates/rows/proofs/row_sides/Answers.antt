use Rattle.row_sums.specs.Sides.{sides_of}
use Rattle.row_sums.proofs.Laws.{plain-under}
use Rattle.rows.proofs.row_sides.Goals as goal

pub returns-in-6 : goal.returns-in-6
unfolding sides_of
returns-in-6 c = rw (c.in-6.is, c.requires.0) (plain-under _ _ _ _ (c.ramp.ensures _ c.args.year.now.generated))

pub returns-in-7 : goal.returns-in-7
unfolding sides_of
returns-in-7 c = rw (c.in-7.is, c.requires.0) (plain-under _ _ _ _ (c.ramp-in-7.ensures _ c.args.year.now.generated))

pub returns-in-22 : goal.returns-in-22
unfolding sides_of
returns-in-22 c = rw (c.in-22.is, c.requires.0) (plain-under _ _ _ _ c.charge_ramp.ensures)

pub returns-in-23 : goal.returns-in-23
unfolding sides_of
returns-in-23 c = rw (c.in-23.is, c.requires.0) (plain-under _ _ _ _ c.charge_ramp-in-23.ensures)
