-- What the explain program prints for a text: the answer line of certify, and a line that says the answer in words.
use Rattle.std.specs.Prelude.{List, [], ◌++◌, ◌≡◌, ℕ, ◌≤◌, ℤ, length, take, Result, Err}
use Rattle.model.specs.declared.Certificate.{Certificate}
use Rattle.model.specs.declared.Refusal.{Refusal}
use Rattle.model.specs.declared.Refusal.TheVariants.{Frame}
use Rattle.model.specs.Calls.{certify}
use Rattle.texts.specs.Format.{Text, frame_at, whole, text_of}
use Rattle.texts.specs.Claims.{bytes}
use Rattle.text_answers.specs.Format.{scale_in, BindsText}
use Rattle.answer_line.specs.Line.{line_of}
use Rattle.writer.specs.Writing.{room}
use Rattle.plain_words.specs.Plain.{scale_taken}
use Rattle.answer_words.specs.Answers.{sentence}

module _ (l : List ℕ) (N : ℕ) (plan : List ℕ) (ms : List ℤ) where
  unfoldable pub answer_words : Result Certificate Refusal → List ℕ
  answer_words a = line_of a ++ sentence l N plan ms a

  unfoldable pub certified_words : List ℕ
  certified_words = answer_words (certify l N plan ms)

-- of a Frame nothing is said but its line's number; no scale was taken then. Every other sentence ends with the scale (request (v))
unfoldable pub explanation_of : Text → List ℕ
explanation_of (frame_at n) = answer_words [] 1 [] [] (Err (Frame n)) ++ bytes "\n"
explanation_of (whole s) = certified_words s.of_data (scale_in s.of_scal) s.of_plan s.of_dual ++ (scale_taken s.of_scal ++ bytes "\n")

unfoldable pub explain_text : List ℕ → List ℕ
explain_text input = explanation_of (text_of input)

-- demand 3 of a text's explanation: it opens with the line of a certificate that binds every rival plan over the input's data
abbrev pub LineBinds : List ℕ → Type 0
LineBinds input = (a : Result Certificate Refusal) × ((rest : List ℕ) × ((explain_text input ≡ line_of a ++ rest) × BindsText input a))

-- the bytes are the explanation, as far as there is room
pub record Explains (input : List ℕ) (explanation : List ℕ) : Type 0 where
  pub within : length explanation ≤ room
  pub held : explanation ≡ take room (explain_text input)
  pub binds : LineBinds input
