use mathlib.Core.Path.{◌∙◌}
use Rattle.gap.specs.Signs.{terms_of}
use Rattle.gap.proofs.Laws.{certified}
use Rattle.gap.proofs.gap_of.Goals as goal

pub returns : goal.returns
unfolding terms_of
returns c =
    let t = c.constant_terms-terms.ensures in
    c.certificate_of.ensures ∙ certified _ _ _ _ c.requires (c.scale.ensures ∙ rw t) (c.scale-2.ensures ∙ rw t)
