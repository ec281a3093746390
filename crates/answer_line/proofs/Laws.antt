-- How many bytes an answer's line has.
use Prim.Native.Nat.{ℕ, ◌^◌, ◌≤◌, ◌<◌}
use native.Mathlib.Omega.{arith}
use lib.ListN.{length, length-append}
use Rattle.writer.proofs.Laws.{decimal-length}
use Rattle.answer_line.specs.Line.{line_with}

-- a number of 64 bits has at most 20 digits
pub short-text : (letter a b : ℕ) → a < 2 ^ 64 → b < 2 ^ 64 → length (line_with letter a b) ≤ 44
unfolding line_with
short-text letter a b h k = simp length-append (omega (arith, decimal-length a h, decimal-length b k))
