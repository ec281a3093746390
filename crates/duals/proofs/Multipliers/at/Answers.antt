use mathlib.Core.Path.{◌∙◌}
use native.Mathlib.Omega.{arith}
use borrow.Author.Rules.{rules}
use Rattle.tables.proofs.Members.{row_inside}
use Rattle.duals.proofs.Laws.{row_is, row_below}
use Rattle.duals.proofs.Multipliers.at.Goals as goal

pub set_of-requires : goal.set_of-requires
set_of-requires c = (row_inside _ c.requires).0

pub inside_of-o-requires : goal.inside_of-o-requires
inside_of-o-requires c = rw c.set_of.ensures (c.args.self.now.counted, (row_inside _ c.requires).1)

pub offset_bounds-self-k : goal.offset_bounds-self-k
offset_bounds-self-k c = let l = (row_inside _ c.requires).0 in search rules

pub bounds-self-k : goal.bounds-self-k
bounds-self-k c = let l = (row_inside _ c.requires).0 in search rules

pub overflow_add-self : goal.overflow_add-self
overflow_add-self c =
    let e = c.set_of.ensures in
    rw (c.inside_of-o.ensures, e) (record { fits = omega (arith, row_below c.requires c.args.self.now.laid_out) })

pub multiplier_in-requires : goal.multiplier_in-requires
multiplier_in-requires c =
    rw (c.inside_of-o.ensures, c.set_of.ensures) (row_below c.requires c.args.self.now.laid_out)

pub returns : goal.returns
returns c =
    c.multiplier_in.ensures
    ∙ rw (c.inside_of-o.ensures, c.set_of.ensures, row_is c.requires c.args.self.now.laid_out)
