use mathlib.Core.Path.{sym, ◌∙◌}
use Rattle.capped.proofs.Laws.{times-cap}
use Rattle.terms.proofs.plants.annuity_of.Goals as goal

pub returns : goal.returns
returns c =
    rw (sym c.is_existing.ensures ∙ c.if-is_existing.false)
    (c.scale.ensures ∙ rw (c.product.ensures, c.by_year_plant-annuity.ensures.0, c.by_year_plant.ensures.0) (times-cap _ _))
