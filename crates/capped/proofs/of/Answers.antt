use mathlib.Core.Path.{sym}
use native.Mathlib.Omega.{arith}
use Rattle.capped.specs.Cap.{limit}
use Rattle.capped.proofs.Laws.{cap-low, cap-high}
use Rattle.capped.proofs.of.Goals as goal

pub returns-then-n-gt-LIMIT : goal.returns-then-n-gt-LIMIT
unfolding limit
returns-then-n-gt-LIMIT c = sym (cap-high _ (omega arith))

pub returns : goal.returns
unfolding limit
returns c = sym (cap-low _ (omega arith))
