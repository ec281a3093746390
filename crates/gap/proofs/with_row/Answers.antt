use Rattle.gap.proofs.Laws.{with_row_is}
use Rattle.gap.proofs.with_row.Goals as goal

pub returns : goal.returns
returns c = with_row_is _ _ _ c.netted-n.ensures c.add.ensures c.take.ensures
