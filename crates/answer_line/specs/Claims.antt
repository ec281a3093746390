-- What is proved of the printed line, as statements; the proofs are in proofs/Claimed.antt.
use Rattle.std.specs.Prelude.{◌≡◌, List, [], ◌∷◌, ◌++◌, ℕ, ◌+◌, ◌*◌, ◌-◌, ◌≤◌, ◌<◌, length, get_or, drop, Result, Err}
use Rattle.std.proofs.lemmas.List.Edits.{sets}
use Rattle.model.specs.declared.Certificate.{Certificate}
use Rattle.model.specs.declared.Refusal.{Refusal}
use Rattle.model.specs.declared.Refusal.TheVariants.{Underpriced}
use Rattle.model.specs.Calls.{issued}
use Rattle.writer.specs.Decimal.{decimal}
use Rattle.writer.specs.Writing.{added}
use Rattle.answer_line.specs.Line.{line_of}

-- the number that digits stand for, read from the left after a number v
abbrev pub read_from : ℕ → List ℕ → ℕ
read_from v [] = v
read_from v (b ∷ bs) = read_from (v * 10 + (b - 48)) bs

-- every byte is one of `0` to `9`
abbrev pub AreDigits : List ℕ → Type 0
AreDigits [] = Unit {0}
AreDigits (b ∷ bs) = (48 ≤ b) × ((b ≤ 57) × AreDigits bs)

-- digits that stand for n, with no zero in front; 0 is one digit
pub record DecimalOf (n : ℕ) (bytes : List ℕ) : Type 0 where
  pub are_digits : AreDigits bytes
  pub stand : read_from 0 bytes ≡ n
  pub no_leading_zero : 0 < n → 48 < get_or bytes 0 0
  pub zero_alone : n ≡ 0 → bytes ≡ 48 ∷ []

abbrev pub Decimals : Type 0
Decimals = (n : ℕ) → DecimalOf n (decimal n)

-- the line written over the first bytes of a list that has room for it: the line, then what stood after that place
abbrev pub LineThenRest : Type 0
LineThenRest = (a : Result Certificate Refusal) (l : List ℕ) → length (line_of a) ≤ length l → sets l 0 (line_of a) ≡ line_of a ++ drop (length (line_of a)) l

-- what `answer_line` leaves in a line that has room for it: what stood there, then the answer's whole line
abbrev pub WholeLine : Type 0
WholeLine = (a : Result Certificate Refusal) (size : ℕ) (l : List ℕ) → length l + length (line_of a) ≤ size → added size l (line_of a) ≡ l ++ line_of a

-- `A 40000000000 0`, document 01's first case, and `R 12 3`, byte by byte
abbrev pub FirstCase : Type 0
FirstCase =
    line_of (issued 40000000000 0)
    ≡ 65 ∷ 32 ∷ 52 ∷ 48 ∷ 48 ∷ 48 ∷ 48 ∷ 48 ∷ 48 ∷ 48 ∷ 48 ∷ 48 ∷ 48 ∷ 32 ∷ 48 ∷ 10 ∷ []

abbrev pub FourthCase : Type 0
FourthCase = line_of (Err (Underpriced 3)) ≡ 82 ∷ 32 ∷ 49 ∷ 50 ∷ 32 ∷ 51 ∷ 10 ∷ []
