-- A text of which fewer bytes than the room were kept is shorter than the room. Assumes nothing.
use mathlib.Core.Path.{◌≡◌, ap, ◌∙◌}
use mathlib.Core.Logic.{⊎_elim}
use Prim.Native.Nat.{◌≤◌, ◌<◌}
use native.Mathlib.Omega.{arith}
use lib.ListN.{length, take}
use lib.Seq.{length-take-le, take_all}
use Rattle.capped.proofs.Laws.{le-or-lt}
use Rattle.writer.specs.Writing.{room}
use Rattle.explanations.specs.Explained.{explain_text}
use Rattle.explanations.specs.Claims.{NothingLeftOut}

pub nothing-left-out : NothingLeftOut
nothing-left-out input explanation h k =
    let text = explain_text input in
    let kept : length explanation ≡ length (take room text) = ap length h.held in
    h.held
    ∙ ⊎_elim
    (λ (q : room ≤ length text). absurd (omega (arith, kept, length-take-le room text q)))
    (λ (q : length text < room). take_all room text (omega arith))
    (le-or-lt room (length text))
