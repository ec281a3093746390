use mathlib.Core.Path.{◌∙◌}
use mir.Syntax.{w64}
use mir.Facts.{to_z-of_z}
use Rattle.text_numbers.proofs.NumberLaws.{signed-cast}
use Rattle.text_numbers.proofs.signed_of.Goals as goal

pub returns : goal.returns
returns c =
    let n = c.cast_signed in
    to_z-of_z {w = w64} (record { sfits = n.type_inv }) ∙ (n.ensures ∙ signed-cast c.args.n)
