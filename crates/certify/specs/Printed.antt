-- What the certify program prints for what it reads.
use Rattle.std.specs.Prelude.{◌≡◌, List, ℕ, take, Result}
use Rattle.standard_input.specs.Size.{input_bytes}
use Rattle.model.specs.declared.Certificate.{Certificate}
use Rattle.model.specs.declared.Refusal.{Refusal}
use Rattle.text_answers.specs.Format.{certify_text, BindsText}
use Rattle.answer_line.specs.Line.{line_of}

-- `A cost gap` or `R number place`, and a line feed
unfoldable pub printed : List ℕ → List ℕ
printed input = line_of (certify_text input)

-- demand 3 of what is printed: it is the line of a certificate that binds every rival plan over the input's data
abbrev pub LineBinds : List ℕ → Type 0
LineBinds input = (a : Result Certificate Refusal) × ((printed input ≡ line_of a) × BindsText input a)

-- what stands behind the buffer's bytes decides nothing (proofs/Enough.antt)
abbrev pub Enough : Type 0
Enough = (input : List ℕ) → printed (take input_bytes input) ≡ printed input
