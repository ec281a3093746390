use mathlib.Core.Path.{◌∙◌}
use Rattle.capped.proofs.Laws.{both-plus}
use Rattle.capped.proofs.add_product.Goals as goal

pub returns : goal.returns
returns c = c.join.ensures ∙ rw c.product.ensures (both-plus _ _)
