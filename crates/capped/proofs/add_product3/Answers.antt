use mathlib.Core.Path.{◌∙◌}
use Rattle.capped.proofs.Laws.{both-plus, times-cap}
use Rattle.capped.proofs.add_product3.Goals as goal

pub returns : goal.returns
returns c = c.join.ensures ∙ rw (c.scale.ensures, c.product.ensures, times-cap) (both-plus _ _)
