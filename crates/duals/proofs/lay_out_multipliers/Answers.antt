use Rattle.duals.proofs.Shapes.{shaped, shape-counts}
use Rattle.duals.proofs.lay_out_multipliers.Goals as goal

pub row_starts-requires : goal.row_starts-requires
row_starts-requires c = shaped c.requires.0 c.shape_of.ensures

pub invariant_of-result : goal.invariant_of-result
invariant_of-result c = record {
  counted = c.requires.0;
  laid_out = record { whole = c.requires.1; starts = λ k h. rw (← shape-counts c.shape_of.ensures) (c.row_starts.ensures.1 k h) };
}
