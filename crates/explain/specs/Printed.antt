-- What the explain program prints for what it reads.
use Rattle.std.specs.Prelude.{◌≡◌, List, ℕ, take}
use Rattle.standard_input.specs.Size.{input_bytes}
use Rattle.writer.specs.Writing.{room}
use Rattle.explanations.specs.Explained.{explain_text}

-- the line of certify and a line in words, as far as there is room
unfoldable pub printed : List ℕ → List ℕ
printed input = take room (explain_text input)

-- what stands behind the buffer's bytes decides nothing (proofs/Enough.antt)
abbrev pub Enough : Type 0
Enough = (input : List ℕ) → printed (take input_bytes input) ≡ printed input
