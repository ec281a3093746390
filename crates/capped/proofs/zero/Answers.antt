use mathlib.Core.Path.{sym}
use Rattle.capped.proofs.Laws.{cap-zero}
use Rattle.capped.proofs.zero.Goals as goal

pub returns : goal.returns
returns c = sym cap-zero
