-- What is proved of an explanation, as a statement; the proof is in proofs/Whole.antt.
use Rattle.std.specs.Prelude.{◌≡◌, List, ℕ, ◌<◌, length}
use Rattle.writer.specs.Writing.{room}
use Rattle.explanations.specs.Explained.{explain_text, Explains}

-- where the bytes are fewer than the room, nothing was left out
abbrev pub NothingLeftOut : Type 0
NothingLeftOut = (input explanation : List ℕ) → Explains input explanation → length explanation < room → explanation ≡ explain_text input
