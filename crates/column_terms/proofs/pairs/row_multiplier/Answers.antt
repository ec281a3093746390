use Rattle.column_terms.proofs.Laws.{readable}
use Rattle.column_terms.proofs.pairs.row_multiplier.Goals as goal

pub at-requires : goal.at-requires
at-requires c = readable c.requires
