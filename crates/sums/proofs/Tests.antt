-- A number under a test, and sums of such numbers: the sum over one index that a test fixes is the summand there. Assumes nothing.
use mathlib.Core.Path.{◌≡◌, refl, sym, ◌∙◌, ap, ap₂, fun_ext}
use mathlib.Core.Bool.{Bool, true, false, not, ◌&&◌}
use Prim.Native.Nat.{ℕ, zero, suc, ◌+◌, ◌*◌, ◌-◌, ◌≤◌, ◌<◌, zero-le}
use native.Mathlib.Nat.{zero-mul, mul-zero, le_refl}
use native.Mathlib.Numerals.{add-one}
use native.Mathlib.Omega.{arith}
use borrow.Author.Tests.{eq-eqb, ne_eqb}
use lib.Dec.{T, ltb, ltb→lt, lt→ltb, eqb, eqb-zero-suc, eqb-suc-zero, eqb-suc-suc}
use Rattle.sums.specs.Sum.{sum, on}
use Rattle.sums.proofs.Sums.{sum-delta, sum-zero, sum-const-zero}

pub on-zero : (b : Bool) → on b 0 ≡ 0
on-zero true = refl
on-zero false = refl

pub on-add : (b : Bool) (u v : ℕ) → on b (u + v) ≡ on b u + on b v
on-add true u v = refl
on-add false u v = refl

pub on_both : (a b : Bool) (u : ℕ) → on (a && b) u ≡ on a (on b u)
on_both true b u = refl
on_both false b u = refl

pub on-false : (b : Bool) (u : ℕ) → b ≡ false → on b u ≡ 0
on-false b u e = ap (λ (a : Bool). on a u) e

pub on-true : (b : Bool) (u : ℕ) → b ≡ true → on b u ≡ u
on-true b u e = ap (λ (a : Bool). on a u) e

pub on-mul : (b : Bool) (u v : ℕ) → on b u * v ≡ on b (u * v)
on-mul true u v = refl
on-mul false u v = zero-mul v

pub mul-on : (b : Bool) (u v : ℕ) → u * on b v ≡ on b (u * v)
mul-on true u v = refl
mul-on false u v = mul-zero u

pub on-sum : (b : Bool) (n : ℕ) (f : ℕ → ℕ) → sum n (λ i. on b (f i)) ≡ on b (sum n f)
on-sum true n f = refl
on-sum false n f = sum-const-zero n

-- the test fixes the outermost of one, two, three or four sums
module _ (n k : ℕ) (l : k < n) where
  pub at1 : (f : ℕ → ℕ) → sum n (λ i. on (eqb i k) (f i)) ≡ f k
  at1 f = sum-delta n k (λ i. on (eqb i k) (f i)) l (λ i _ d. ap (λ (b : Bool). on b (f i)) (ne_eqb i k d)) ∙ ap (λ (b : Bool). on b (f k)) (eq-eqb k k refl)

  pub at2 : (m : ℕ) (f : ℕ → ℕ → ℕ) → sum n (λ i. sum m (λ j. on (eqb i k) (f i j))) ≡ sum m (λ j. f k j)
  at2 m f = ap (sum n) (fun_ext (λ i. on-sum (eqb i k) m (f i))) ∙ at1 (λ i. sum m (f i))

  pub at3 : (m p : ℕ) (f : ℕ → ℕ → ℕ → ℕ) → sum n (λ i. sum m (λ j. sum p (λ h. on (eqb i k) (f i j h)))) ≡ sum m (λ j. sum p (λ h. f k j h))
  at3 m p f = ap (sum n) (fun_ext (λ i. ap (sum m) (fun_ext (λ j. on-sum (eqb i k) p (f i j))))) ∙ at2 m (λ i j. sum p (f i j))

  pub at4 : (m p q : ℕ) (f : ℕ → ℕ → ℕ → ℕ → ℕ)
      → sum n (λ i. sum m (λ j. sum p (λ h. sum q (λ g. on (eqb i k) (f i j h g))))) ≡ sum m (λ j. sum p (λ h. sum q (λ g. f k j h g)))
  at4 m p q f = ap (sum n) (fun_ext (λ i. ap (sum m) (fun_ext (λ j. ap (sum p) (fun_ext (λ h. on-sum (eqb i k) q (f i j h))))))) ∙ at3 m p (λ i j h. sum q (f i j h))

-- the same with the test's sides the other way round
pub eqb_comm : (m n : ℕ) → eqb m n ≡ eqb n m
eqb_comm zero zero = refl
eqb_comm zero (suc n) = eqb-zero-suc n ∙ sym (eqb-suc-zero n)
eqb_comm (suc m) zero = eqb-suc-zero m ∙ sym (eqb-zero-suc m)
eqb_comm (suc m) (suc n) = eqb-suc-suc m n ∙ eqb_comm m n ∙ sym (eqb-suc-suc n m)

module _ (n k : ℕ) (l : k < n) where
  pub to1 : (f : ℕ → ℕ) → sum n (λ i. on (eqb k i) (f i)) ≡ f k
  to1 f = ap (sum n) (fun_ext (λ i. ap (λ (b : Bool). on b (f i)) (eqb_comm k i))) ∙ at1 n k l f

  pub to2 : (m : ℕ) (f : ℕ → ℕ → ℕ) → sum n (λ i. sum m (λ j. on (eqb k i) (f i j))) ≡ sum m (λ j. f k j)
  to2 m f = ap (sum n) (fun_ext (λ i. on-sum (eqb k i) m (f i))) ∙ to1 (λ i. sum m (f i))

  pub to3 : (m p : ℕ) (f : ℕ → ℕ → ℕ → ℕ) → sum n (λ i. sum m (λ j. sum p (λ h. on (eqb k i) (f i j h)))) ≡ sum m (λ j. sum p (λ h. f k j h))
  to3 m p f = ap (sum n) (fun_ext (λ i. ap (sum m) (fun_ext (λ j. on-sum (eqb k i) p (f i j))))) ∙ to2 m (λ i j. sum p (f i j))

  pub to4 : (m p q : ℕ) (f : ℕ → ℕ → ℕ → ℕ → ℕ)
      → sum n (λ i. sum m (λ j. sum p (λ h. sum q (λ g. on (eqb k i) (f i j h g))))) ≡ sum m (λ j. sum p (λ h. sum q (λ g. f k j h g)))
  to4 m p q f = ap (sum n) (fun_ext (λ i. ap (sum m) (fun_ext (λ j. ap (sum p) (fun_ext (λ h. on-sum (eqb k i) q (f i j h))))))) ∙ to3 m p (λ i j h. sum q (f i j h))

-- a test on the number after: the row before, the row after
pub prev1 : (n s : ℕ) → s < n → (f : ℕ → ℕ) → sum n (λ i. on (eqb (i + 1) s) (f i)) ≡ on (not (eqb s 0)) (f (s - 1))
prev1 n zero l f = sum-zero n (λ i _. ap (λ (b : Bool). on b (f i)) (ne_eqb (i + 1) 0 (λ e. omega arith)))
prev1 n (suc k) l f =
    ap (sum n) (fun_ext (λ i. ap (λ (b : Bool). on b (f i)) (ap (λ (v : ℕ). eqb v (suc k)) (add-one i) ∙ eqb-suc-suc i k)))
    ∙ at1 n k (omega arith) f
    ∙ sym (ap₂ (λ (b : Bool) (v : ℕ). on (not b) (f v)) (eqb-suc-zero k) (omega arith))

pub next1 : (n k : ℕ) (f : ℕ → ℕ) → sum n (λ i. on (eqb (k + 1) i) (f i)) ≡ on (ltb (k + 1) n) (f (k + 1))
next1 n k f = go (ltb (k + 1) n) (ltb→lt (k + 1) n) (lt→ltb (k + 1) n)
  where
    go : (b : Bool) → (T b → k + 1 < n) → (k + 1 < n → T b) → sum n (λ i. on (eqb (k + 1) i) (f i)) ≡ on b (f (k + 1))
    go true h c = to1 n (k + 1) (h tt) f
    go false h c = sum-zero n (λ i l. ap (λ (b : Bool). on b (f i)) (ne_eqb (k + 1) i (λ e. c (omega arith))))

pub on-le : (b : Bool) (u : ℕ) → on b u ≤ u
on-le true u = le_refl u
on-le false u = zero-le

pub on-mono : (b : Bool) {u v : ℕ} → u ≤ v → on b u ≤ on b v
on-mono true h = h
on-mono false h = zero-le
