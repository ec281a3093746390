-- The claims: a number's decimal digits stand for it, what the line leaves in place, and the lines of two of the station's cases.
use mathlib.Core.Path.{◌≡◌, refl, ◌∙◌, ap}
use mathlib.Core.Logic.{⊎_elim}
use mathlib.Core.List.{List, [], ◌∷◌, ◌++◌}
use Prim.Native.Nat.{ℕ, zero, suc, ◌/◌, ◌%◌, ◌≤◌, ◌<◌}
use native.Mathlib.Nat.{zero-add}
use native.Mathlib.Omega.{arith}
use lib.ListN.{get_or}
use lib.Seq.{sets-eq}
use Rattle.model.specs.Calls.{code_of}
use Rattle.writer.specs.Decimal.{digit, digits_within, decimal}
use Rattle.writer.proofs.Laws.{low_or_high, within_low, within-high, decimal-few, added-fitting}
use Rattle.answer_line.specs.Line.{line_with, line_of}
use Rattle.answer_line.specs.Claims.{read_from, AreDigits, DecimalOf, Decimals, LineThenRest, WholeLine, FirstCase, FourthCase}

read-joined : (p q : List ℕ) (v : ℕ) → read_from v (p ++ q) ≡ read_from (read_from v p) q
read-joined [] q v = refl
read-joined (b ∷ p) q v = read-joined p q _

digits-joined : (p q : List ℕ) → AreDigits p → AreDigits q → AreDigits (p ++ q)
digits-joined [] q f g = g
digits-joined (b ∷ p) q f g = (f.0, (f.1.0, digits-joined p q f.1.1 g))

one-digit : (n : ℕ) → n < 10 → DecimalOf n (digit n ∷ [])
one-digit n h = record {
  are_digits = (omega arith, (omega arith, tt));
  stand = omega arith;
  no_leading_zero = λ p. omega arith;
  zero_alone = λ z. ap (λ (k : ℕ). digit k ∷ []) z;
}

in-front : (bytes rest : List ℕ) → 48 < get_or bytes 0 0 → 48 < get_or (bytes ++ rest) 0 0
in-front [] rest h = absurd (omega arith)
in-front (b ∷ bytes) rest h = h

one_more : (n : ℕ) {bytes : List ℕ} → 10 ≤ n → DecimalOf (n / 10) bytes → DecimalOf n (bytes ++ (digit (n % 10) ∷ []))
one_more n {bytes} h f = record {
  are_digits = digits-joined bytes _ f.are_digits (omega arith, (omega arith, tt));
  stand = read-joined bytes (digit (n % 10) ∷ []) 0 ∙ rw f.stand (omega arith);
  no_leading_zero = λ p. in-front bytes _ (f.no_leading_zero (omega arith));
  zero_alone = λ z. absurd (omega arith);
}

within-decimal : (k n : ℕ) → n ≤ k → DecimalOf n (digits_within k n)
within-decimal zero n h = rw (within_low 0 n (omega arith)) (one-digit n (omega arith))
within-decimal (suc k) n h =
    ⊎_elim (λ (low : n < 10). rw (within_low (suc k) n low) (one-digit n low))
    (λ (high : 10 ≤ n). rw (within-high k n high) (one_more n high (within-decimal k (n / 10) (omega arith))))
    (low_or_high n)

pub decimals : Decimals
unfolding decimal
decimals n = within-decimal n n (omega arith)

pub line-then-rest : LineThenRest
line-then-rest a l h = sets-eq (line_of a) l 0 (rw zero-add h) ∙ rw zero-add

pub whole-line : WholeLine
whole-line a size l h = added-fitting size l (line_of a) h

pub first-case : FirstCase
unfolding line_of line_with digits_within
first-case = rw (decimal-few 10 40000000000 (omega arith), decimal-few 0 0 (omega arith))

pub fourth-case : FourthCase
unfolding line_of code_of line_with digits_within
fourth-case = rw (decimal-few 1 12 (omega arith), decimal-few 0 3 (omega arith))
