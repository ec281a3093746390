-- A term under a test, and the loop that sums: what holds after k turns, before the first, and after one turn more. Assumes nothing.
-- `Summed` is a record and no product, so that a law finds the term f and the number of turns in the invariant.
use mathlib.Core.Path.{◌≡◌, sym, ap, ◌∙◌}
use mathlib.Core.Bool.{Bool, true, false}
use Prim.Native.Nat.{ℕ, ◌+◌, ◌≤◌, ◌<◌, zero-le}
use native.Mathlib.Nat.{add-zero}
use native.Mathlib.Omega.{arith}
use Rattle.capped.specs.Cap.{cap, plus_if, Sum}
use Rattle.capped.proofs.Laws.{plus-cap}
use Rattle.sums.specs.Sum.{sum, on}
use Rattle.sums.proofs.Sums.{sum-one-more}

-- Terms under a test

pub plus-on : (b : Bool) (m n : ℕ) → plus_if b (cap m) n ≡ cap (m + on b n)
plus-on true m n = plus-cap m n
plus-on false m n = ap cap (sym (add-zero m))

-- Capped sums: after k of n turns s is the sum of the first k terms.

pub record Summed (n : ℕ) (f : ℕ → ℕ) (k : ℕ) (s : Sum) : Type 0 where
  pub upto : k ≤ n
  pub is : s ≡ cap (sum k f)

pub summed-none : {n : ℕ} {f : ℕ → ℕ} {s : Sum} → s ≡ cap 0 → Summed n f 0 s
unfolding sum
summed-none e = record { upto = zero-le; is = e }

module _ {n : ℕ} {f : ℕ → ℕ} {k : ℕ} {s : Sum} (h : Summed n f k s) where
  pub summed-more : {r : Sum} → k < n → r ≡ cap (sum k f + f k) → Summed n f (k + 1) r
  summed-more l e = record { upto = omega arith; is = e ∙ rw sum-one-more }
