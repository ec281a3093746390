-- Laws of the least of finitely many numbers.
use mathlib.Core.Path.{◌≡◌, refl, sym, ap, ◌∙◌}
use mathlib.Core.Logic.{◌⊎◌, inl, inr}
use Prim.Native.Nat.{ℕ, zero, suc, ◌+◌, ◌≤◌, ◌<◌, min}
use native.Mathlib.Nat.{eq-or-lt_of_le, le_of_suc-le-suc, min-eq_left, min-eq_right}
use native.Mathlib.Omega.{arith, not-le}
use native.Mathlib.Decide.{dec_le}
use Rattle.sums.specs.Sum.{sum, least}

-- it is at most each of them
pub least-lower : (n : ℕ) (f : ℕ → ℕ) (i : ℕ) → i < n → least n f ≤ f i
unfolding least
least-lower zero f i l = absurd (omega arith)
least-lower (suc zero) f i l = let e : i ≡ 0 = omega arith in omega (arith, ap f e)
least-lower (suc (suc n)) f i l = go (least-lower (suc n) f i) (eq-or-lt_of_le (le_of_suc-le-suc l))
  where
    go : (i < suc n → least (suc n) f ≤ f i) → (i ≡ suc n) ⊎ (i < suc n) → least (suc (suc n)) f ≤ f i
    go h (inl q) = omega (arith, ap f q)
    go h (inr q) = omega (arith, h q)

-- and it is one of them
pub least-reached : (n : ℕ) (f : ℕ → ℕ) → 0 < n → (i : ℕ) × (i < n) × (f i ≡ least n f)
unfolding least
least-reached zero f p = absurd (omega arith)
least-reached (suc zero) f p = (0, omega arith, refl)
least-reached (suc (suc n)) f p =
    go (least-reached (suc n) f (omega arith)) (dec_le (least (suc n) f) (f (suc n)))
  where
    go : (i : ℕ) × (i < suc n) × (f i ≡ least (suc n) f) → Dec (least (suc n) f ≤ f (suc n)) → (i : ℕ) × (i < suc (suc n)) × (f i ≡ least (suc (suc n)) f)
    go r (yes h) = (r.0, omega arith, r.2 ∙ sym (min-eq_left h))
    go r (no h) = (suc n, omega arith, sym (min-eq_right (omega (arith, not-le _ _ h))))

pub least-one : (f : ℕ → ℕ) → least 1 f ≡ f 0
unfolding least
least-one f = refl

pub least-one-more : (k : ℕ) (f : ℕ → ℕ) → 0 < k → least (k + 1) f ≡ min (least k f) (f k)
unfolding least
least-one-more zero f l = absurd (omega arith)
least-one-more (suc k) f l = let e : suc k + 1 ≡ suc (suc k) = omega arith in ap (λ (n : ℕ). least n f) e

-- together they come to no less
pub least-below-sum : (n : ℕ) (f : ℕ → ℕ) → least n f ≤ sum n f
unfolding least sum
least-below-sum zero f = omega arith
least-below-sum (suc zero) f = omega arith
least-below-sum (suc (suc n)) f = omega (arith, least-below-sum (suc n) f)
