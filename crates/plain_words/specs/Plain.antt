-- What is said of an answer of certify that names no place, as bytes: a Frame, an acceptance, and the scale that was taken.
use Rattle.std.specs.Prelude.{cond, List, ◌++◌, ℕ, eqb, length}
use Rattle.texts.specs.Claims.{bytes}
use Rattle.text_answers.specs.Format.{scale_in}
use Rattle.sentences.specs.Sentences.{with}

-- a line that is not of the format
unfoldable pub frame_words : ℕ → List ℕ
frame_words n =
    with "line " n ++ bytes " of the input is not a line of DATA, PLAN, SCAL or DUAL as docs/FORMAT.md has them, or brings more numbers than may come"

-- an acceptance: cost and gap are N times the millionths of a money unit
unfoldable pub accepted_words : ℕ → ℕ → List ℕ
accepted_words cost gap =
    with "Accepted: the plan costs " cost ++ (with " and no other plan costs less by more than " gap ++ bytes ", in millionths of a money unit times N")

-- the scale that was taken, and where it comes from, by the numbers of the SCAL line
unfoldable pub scale_taken : List ℕ → List ℕ
scale_taken xs =
    with "; the scale N is " (scale_in xs) ++ cond (eqb (length xs) 0) (bytes ", the default where there is no SCAL line") (bytes ", from the SCAL line")
