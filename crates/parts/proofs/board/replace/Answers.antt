use native.Mathlib.Nat.{add-sub_cancel_left}
use lib.Seq.{drop-drop}
use Rattle.model.specs.Calls.{replaced}
use Rattle.parts.proofs.board.replace.Goals as goal

pub returns : goal.returns
unfolding replaced
returns c = rw (c.write.ensures, add-sub_cancel_left, drop-drop)
