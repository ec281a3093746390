use Rattle.constants.specs.Constants.{netted_of}
use Rattle.row_sums.specs.Sides.{sides_with}
use Rattle.row_sums.proofs.with_constant.Goals as goal

pub returns : goal.returns
unfolding sides_with netted_of
returns c = rw (c.add_product.ensures, c.add_product-2.ensures, c.netted-n.ensures)
