-- Laws of finite sums.
use mathlib.Core.Path.{◌≡◌, refl, sym, ◌∙◌, ap, ap₂}
use mathlib.Core.Logic.{◌≢◌}
use Prim.Native.Nat.{ℕ, zero, suc, ◌+◌, ◌*◌, ◌-◌, ◌≤◌, ◌<◌}
use native.Mathlib.Nat.{add-zero, zero-add, add-suc, suc-mul, zero-mul, mul-zero, le_refl, add-le-add}
use native.Mathlib.Omega.{arith}
use native.Mathlib.Numerals.{add-one}
use Rattle.sums.specs.Sum.{sum}

pub sum-suc : (n : ℕ) (f : ℕ → ℕ) → sum (suc n) f ≡ sum n f + f n
unfolding sum
sum-suc n f = refl

-- the form that a loop in code meets
pub sum-one-more : (n : ℕ) (f : ℕ → ℕ) → sum (n + 1) f ≡ sum n f + f n
sum-one-more n f = rw add-one (sum-suc n f)

pub sum-cong : (n : ℕ) {f g : ℕ → ℕ} → ((i : ℕ) → i < n → f i ≡ g i) → sum n f ≡ sum n g
unfolding sum
sum-cong zero h = refl
sum-cong (suc n) h = ap₂ (λ (x y : ℕ). x + y) (sum-cong n (λ i l. h i (omega arith))) (h n (omega arith))

pub sum-add : (n : ℕ) (f g : ℕ → ℕ) → sum n (λ i. f i + g i) ≡ sum n f + sum n g
unfolding sum
sum-add zero f g = refl
sum-add (suc n) f g = omega (arith, sum-add n f g)

pub sum-scale : (n k : ℕ) (f : ℕ → ℕ) → sum n (λ i. k * f i) ≡ k * sum n f
unfolding sum
sum-scale zero k f = sym (mul-zero k)
sum-scale (suc n) k f = omega (arith, sum-scale n k f)

pub sum-scale-right : (n k : ℕ) (f : ℕ → ℕ) → sum n (λ i. f i * k) ≡ sum n f * k
unfolding sum
sum-scale-right zero k f = sym (zero-mul k)
sum-scale-right (suc n) k f = omega (arith, sum-scale-right n k f)

pub sum_mono : (n : ℕ) {f g : ℕ → ℕ} → ((i : ℕ) → i < n → f i ≤ g i) → sum n f ≤ sum n g
unfolding sum
sum_mono zero h = le_refl 0
sum_mono (suc n) h = add-le-add (sum_mono n (λ i l. h i (omega arith))) (h n (omega arith))

pub sum-zero : (n : ℕ) {f : ℕ → ℕ} → ((i : ℕ) → i < n → f i ≡ 0) → sum n f ≡ 0
unfolding sum
sum-zero zero h = refl
sum-zero (suc n) h = omega (arith, sum-zero n (λ i l. h i (omega arith)), h n (omega arith))

pub sum-const-zero : (n : ℕ) → sum n (λ i. 0) ≡ 0
sum-const-zero n = sum-zero n (λ i l. refl)

pub sum-swap : (n m : ℕ) (f : ℕ → ℕ → ℕ) → sum n (λ i. sum m (λ j. f i j)) ≡ sum m (λ j. sum n (λ i. f i j))
unfolding sum
sum-swap zero m f = sym (sum-const-zero m)
sum-swap (suc n) m f = ap (λ (x : ℕ). x + sum m (λ j. f n j)) (sum-swap n m f) ∙ sym (sum-add m (λ j. sum n (λ i. f i j)) (λ j. f n j))

pub sum-split : (m n : ℕ) (f : ℕ → ℕ) → sum (m + n) f ≡ sum m f + sum n (λ i. f (m + i))
unfolding sum
sum-split m zero f = rw (add-zero, add-zero)
sum-split m (suc n) f = rw add-suc (omega (arith, sum-split m n f))

-- the sum over the part [a, a+n) of [0, a+n+b), where the summand is 0 elsewhere
pub sum-part : (a n b : ℕ) (f : ℕ → ℕ) → ((i : ℕ) → i < a → f i ≡ 0) → ((i : ℕ) → a + n ≤ i → i < a + n + b → f i ≡ 0)
    → sum (a + n + b) f ≡ sum n (λ i. f (a + i))
sum-part a n b f lo hi =
    omega (arith, sum-split (a + n) b f, sum-split a n f, sum-zero a lo, sum-zero b {f = λ i. f (a + n + i)} (λ i l. hi (a + n + i) (omega arith) (omega arith)))

pub sum-single : (f : ℕ → ℕ) → sum 1 f ≡ f 0
unfolding sum
sum-single f = zero-add (f 0)

pub sum-delta : (n k : ℕ) (f : ℕ → ℕ) → k < n → ((i : ℕ) → i < n → i ≢ k → f i ≡ 0) → sum n f ≡ f k
sum-delta n k f l h =
    let e : n ≡ k + 1 + (n - (k + 1)) = omega arith in
    ap (λ (m : ℕ). sum m f) e
    ∙ sum-part k 1 (n - (k + 1)) f (λ i q. h i (omega arith) (omega arith)) (λ i q r. h i (omega arith) (omega arith))
    ∙ sum-single (λ i. f (k + i)) ∙ ap f (add-zero k)

pub sum-flat : (n m : ℕ) (f : ℕ → ℕ) → sum (n * m) f ≡ sum n (λ i. sum m (λ j. f (i * m + j)))
unfolding sum
sum-flat zero m f = rw zero-mul
sum-flat (suc n) m f = rw suc-mul (omega (arith, sum-split (n * m) m f, sum-flat n m f))

-- a capped sum that stops early: what was summed so far is at most the whole
pub sum-prefix : (i n : ℕ) (f : ℕ → ℕ) → i ≤ n → sum i f ≤ sum n f
sum-prefix i n f h =
    let e : n ≡ i + (n - i) = omega arith in
    omega (arith, ap (λ (m : ℕ). sum m f) e, sum-split i (n - i) f)
