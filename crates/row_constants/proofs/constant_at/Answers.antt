use Rattle.model.specs.Families.{row_boxes}
use Rattle.row_constants.proofs.Laws.{without, without-arm}
use Rattle.row_constants.proofs.constant_at.Goals as goal

pub returns-in_default : goal.returns-in_default
unfolding row_boxes
returns-in_default c = let l = c.requires.0 in without _ _ _ _ _ _ l (without-arm _ l c.in_default.in_default-own.rest)
