-- The line that the certify program prints (document 01, "The certify program"), as a list of bytes.
use Rattle.std.specs.Prelude.{List, [], ◌∷◌, ◌++◌, ℕ, Result, Ok, Err}
use Rattle.model.specs.declared.Certificate.{Certificate}
use Rattle.model.specs.declared.Refusal.{Refusal}
use Rattle.model.specs.Calls.{code_of}
use Rattle.writer.specs.Decimal.{decimal}

abbrev pub letter_a : ℕ
letter_a = 65

abbrev pub letter_r : ℕ
letter_r = 82

abbrev pub space : ℕ
space = 32

abbrev pub line_feed : ℕ
line_feed = 10

-- a letter and two numbers, each after one space, and a line feed
unfoldable pub line_with : ℕ → ℕ → ℕ → List ℕ
line_with letter a b = letter ∷ (space ∷ (decimal a ++ (space ∷ (decimal b ++ (line_feed ∷ [])))))

-- `A cost gap`, or `R number place`
unfoldable pub line_of : Result Certificate Refusal → List ℕ
line_of (Ok certificate) = line_with letter_a certificate.cost certificate.gap
line_of (Err refusal) = line_with letter_r (code_of refusal).number (code_of refusal).first
