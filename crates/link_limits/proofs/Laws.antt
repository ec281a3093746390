-- The least of some numbers by `min` over them in turn is that of the definitions. Assumes nothing.
use mathlib.Core.Path.{◌≡◌, refl, sym, ap, ◌∙◌}
use mathlib.Core.List.{map}
use Prim.Native.Nat.{ℕ, zero, suc, ◌+◌, ◌≤◌, min}
use native.Mathlib.Nat.{add-zero}
use native.Mathlib.Omega.{arith}
use Rattle.std.specs.List.{fold, reduce, range_with_len}
use Rattle.std.specs.Option.{unwrap_or}
use Rattle.sums.specs.Sum.{least}
use Rattle.sums.proofs.Least.{least-one-more}

module _ (f : ℕ → ℕ) where
  lowest_from : (n k : ℕ) → 1 ≤ k → fold min (least k f) (map f (range_with_len k n)) ≡ least (k + n) f
  lowest_from zero k l = ap (λ (i : ℕ). least i f) (sym (add-zero k))
  lowest_from (suc n) k l =
      ap (λ v. fold min v (map f (range_with_len (k + 1) n))) (sym (least-one-more k f l)) ∙ lowest_from n (k + 1) (omega arith) ∙ ap (λ (i : ℕ). least i f) (omega arith)

  pub lowest_is : (n : ℕ) → unwrap_or (reduce min (map f (range_with_len 0 n))) 0 ≡ least n f
  unfolding least
  lowest_is zero = refl
  lowest_is (suc n) = let next : 1 + n ≡ suc n = omega arith in lowest_from n 1 (omega arith) ∙ ap (λ (i : ℕ). least i f) next
