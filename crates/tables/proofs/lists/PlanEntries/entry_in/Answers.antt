use native.Mathlib.Omega.{arith}
use mathlib.Core.Path.{◌∙◌}
use Rattle.tables.proofs.Laws.{column-below, column-is}
use Rattle.tables.proofs.lists.PlanEntries.entry_in.Goals as goal

pub overflow_add-self : goal.overflow_add-self
overflow_add-self c = omega (arith, column-below c.args.self.now.laid_out c.requires, c.inside_of-o.ensures)

pub number_at-requires : goal.number_at-requires
number_at-requires c = rw c.inside_of-o.ensures (column-below c.args.self.now.laid_out c.requires)

pub returns : goal.returns
returns c = (c.number_at.ensures.0 ∙ rw c.inside_of-o.ensures (column-is c.args.self.now.laid_out c.requires), c.number_at.ensures.1)
