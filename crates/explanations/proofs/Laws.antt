-- Answers, lines and explanations as the code leaves them. Assumes nothing.
use mathlib.Core.Path.{◌≡◌, sym, ◌∙◌}
use mathlib.Core.List.{List, [], ◌++◌, append_assoc}
use Prim.Native.Nat.{ℕ}
use native.Mathlib.Omega.{arith}
use lib.IntN.{ℤ}
use Rattle.std.proofs.Common.{Result, Ok, Err}
use Rattle.std.proofs.lemmas.List.{length-take}
use Rattle.model.specs.declared.Certificate.{Certificate}
use Rattle.model.specs.declared.Refusal.{Refusal}
use Rattle.model.specs.declared.Refusal.TheVariants.{Frame}
use Rattle.model.specs.Calls.{certify}
use Rattle.model.proofs.Demand.{demand3}
use Rattle.texts.specs.Format.{Text, frame_at, whole, text_of}
use Rattle.text_answers.specs.Format.{scale_in, BindsRead}
use Rattle.answer_line.specs.Line.{line_of}
use Rattle.writer.specs.Writing.{room, added}
use Rattle.writer.proofs.Laws.{added-whole}
use Rattle.answer_words.specs.Asked.{AskedOf}
use Rattle.explanations.specs.Explained.{answer_words, certified_words, explanation_of, explain_text, LineBinds, Explains}
use Rattle.explanations.proofs.Refused.{refused-asked}

pub answered : (l : List ℕ) (N : ℕ) (plan : List ℕ) (ms : List ℤ) (a : Result Certificate Refusal) → a ≡ certify l N plan ms → AskedOf l plan ms a
answered l N plan ms (Ok certificate) e = tt
answered l N plan ms (Err r) e = refused-asked l N plan ms (sym e)

-- an explanation opens with the line of a certificate that binds

told-binds : (t : Text) → (a : Result Certificate Refusal) × ((rest : List ℕ) × ((explanation_of t ≡ line_of a ++ rest) × BindsRead t a))
unfolding explanation_of certified_words answer_words
told-binds (frame_at n) = (Err (Frame n), (_, (append_assoc (line_of (Err (Frame n))) _ _, tt)))
told-binds (whole s) =
    (certify s.of_data (scale_in s.of_scal) s.of_plan s.of_dual, (_, (append_assoc (line_of (certify s.of_data (scale_in s.of_scal) s.of_plan s.of_dual)) _ _, demand3 s.of_data (scale_in s.of_scal) s.of_plan s.of_dual)))

line-binds : (input : List ℕ) → LineBinds input
unfolding explain_text
line-binds input = told-binds (text_of input)

-- a line of its own, of the words of a text
pub explains : (input : List ℕ) {line : List ℕ} → line ≡ added room [] (explain_text input) → Explains input line
explains input e =
    let held = e ∙ added-whole room (explain_text input) in
    record { within = rw (held, length-take) (omega arith); held = held; binds = line-binds input }
