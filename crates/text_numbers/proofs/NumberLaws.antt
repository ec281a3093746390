-- Laws of the digits and numbers of a line. Assumes nothing.
use mathlib.Core.Bool.{Bool, true, false, cond}
use mathlib.Core.List.{List, [], ◌∷◌}
use mathlib.Core.Logic.{⊎_elim}
use mathlib.Core.Path.{◌≡◌, refl, sym, ap, subst, ◌∙◌}
use Prim.Native.Nat.{ℕ, zero, suc, ◌+◌, ◌*◌, ◌-◌, ◌^◌, ◌≤◌, ◌<◌}
use native.Mathlib.Nat.{zero-add, pow-suc, pow-le-pow_right, eq-or-lt_of_le, le_of_suc-le-suc}
use native.Mathlib.Numerals.{add-one}
use native.Mathlib.Omega.{arith}
use denote.Ref.{Bor}
use Rattle.std.specs.Prelude.{Option, Some, None, MatchOption}
use Rattle.std.specs.declared.slice.Iter.{Iter}
use Rattle.std.specs.Iterator.{Yields}
use Rattle.std.specs.List.{FoldsTo}
use Rattle.std.proofs.iter.Yields.{fronts}
use Rattle.std.proofs.lemmas.Bool.Decides.{nat_tests}
use lib.Dec.{eqb, ltb}
use lib.IntN.{pos, negsuc}
use lib.ListN.{length, get_or, take, drop}
use lib.Seq.{take_all}
use mir.Syntax.{w64}
use mir.Val.{to_z}
use Rattle.text_numbers.specs.Numbers.{space, digit, with_digit, digits_at, number_at, signed}

-- What was read is below the bound.
abbrev pub Below : ℕ → Option ℕ → Type 0
Below m (Some v) = v < m
Below m None = Unit {0}

pub digit-low : (b d : ℕ) → digit b ≡ Some d → d < 16
unfolding digit
digit-low b d e = grind (arith, nat_tests)

digit-below : (b : ℕ) → Below 16 (digit b)
digit-below b = go (digit b) refl
  where
    go : (x : Option ℕ) → digit b ≡ x → Below 16 x
    go (Some d) e = digit-low b d e
    go None e = tt

with_digit-below : (m : ℕ) (x y : Option ℕ) → Below m x → Below 16 y → Below (m * 16) (with_digit x y)
unfolding with_digit
with_digit-below m (Some v) (Some d) h k = omega arith
with_digit-below m (Some v) None h k = tt
with_digit-below m None y h k = tt

digits-below : (l : List ℕ) (at w : ℕ) → Below (16 ^ w) (digits_at l at w)
unfolding digits_at
digits-below l at zero = omega arith
digits-below l at (suc w) = rw (pow-suc 16 w) (with_digit-below (16 ^ w) _ _ (digits-below l at w) (digit-below _))

number-below : (l : List ℕ) (at w : ℕ) → Below (16 ^ w) (number_at l at w)
unfolding number_at
number-below l at w = go (eqb (get_or l at 0) space)
  where
    go : (b : Bool) → Below (16 ^ w) (cond b (digits_at l (at + 1) w) None)
    go true = digits-below l (at + 1) w
    go false = tt

pub number-low : (l : List ℕ) (at w : ℕ) {v : ℕ} → number_at l at w ≡ Some v → v < 16 ^ w
number-low l at w e = rw e at (number-below l at w)

-- What the code of `number_of` finds

-- fifteen digits leave room for one more
pub digits-low : (l : List ℕ) (at i v : ℕ) → i < 16 → digits_at l at i ≡ Some v → 16 * v + 15 < 2 ^ 64
digits-low l at i v h e =
    let p : v < 16 ^ i = rw e at (digits-below l at i) in
    let r : 16 ^ i ≤ 16 ^ 15 = pow-le-pow_right {n = 16} (omega arith) {i = i} {j = 15} (omega arith) in
    omega arith

with_none : (x : Option ℕ) → None ≡ with_digit x None
unfolding with_digit
with_none (Some v) = refl
with_none None = refl

-- where one byte is no digit there is no number
pub digits-stop : (l : List ℕ) (at i w : ℕ) → i < w → digit (get_or l (at + i) 0) ≡ None → None ≡ digits_at l at w
unfolding digits_at with_digit
digits-stop l at i zero h f = absurd (omega arith)
digits-stop l at i (suc w) h f = ⊎_elim (λ (p : i ≡ w). rw (← p, f) (with_none (digits_at l at i))) (λ (p : i < w). rw (← digits-stop l at i w p f)) (eq-or-lt_of_le (le_of_suc-le-suc h))

-- k digits read: what is left of them, and the number that they write
record ReadTo (l : List ℕ) (s : Iter ℕ) (k v : ℕ) : Type 0 where
  pub left : (j : ℕ) → get_or s.rest.now j 0 ≡ get_or l (k + j) 0
  pub many : k + length s.rest.now ≡ length l
  pub value : digits_at l 0 k ≡ Some v

module _ {l : List ℕ} {s : Iter ℕ} {k v b : ℕ} {bs : List ℕ} (r : ReadTo l s k v) (e : s.rest.now ≡ b ∷ bs) where
  read-below : k < length l
  read-below = omega (arith, r.many, ap length e)

  read-here : get_or l (0 + k) 0 ≡ b
  read-here = let h : 0 + k ≡ k + 0 = omega arith in rw h (sym (r.left 0) ∙ ap (λ (m : List ℕ). get_or m 0 0) e)

  read-next : (t : Iter ℕ) → bs ≡ t.rest.now → (w : ℕ) → Some w ≡ with_digit (Some v) (digit b) → ReadTo l t (k + 1) w
  unfolding digits_at
  read-next t d w f = record {
    left = λ j. let h : k + 1 + j ≡ k + suc j = omega arith in rw (← d, h) (sym (ap (λ (m : List ℕ). get_or m (suc j) 0) e) ∙ r.left (suc j));
    many = omega (arith, r.many, ap length e, ap length d);
    value = rw (add-one, r.value, read-here) (sym f);
  }

-- Where R is one turn of what reads the digits, and takes one digit more: the next turn's number fits a word, and at the end it is the number of all digits.
module _ {F : Type 0} (R : F × ℕ → Bor ℕ → F × ℕ → Type 0) (l : List ℕ) (each : (p : F × ℕ) (x : Bor ℕ) (q : F × ℕ) → R p x q → Some q.1 ≡ with_digit (Some p.1) (digit x.now)) where
  read-along : (xs : List (Bor ℕ)) (s t : Iter ℕ) (p q : F × ℕ) (k : ℕ) → ReadTo l s k p.1 → Yields fronts s xs t → FoldsTo R p xs q → (m : ℕ) × ReadTo l t m q.1
  read-along [] s t p q k r y f = (k, subst (λ (w : Iter ℕ × (F × ℕ)). ReadTo l w.0 k w.1.1) (λ i. (y i, f i)) r)
  read-along (x ∷ xs) s t p q k r y f = read-along xs y.0 t f.0 q (k + 1) (read-next r y.1 y.0 refl f.0.1 (each p x f.0 f.1)) y.2 f.2

  read-from : (xs : List (Bor ℕ)) (s t : Iter ℕ) (p q : F × ℕ) → s.rest.now ≡ l → p.1 ≡ 0 → Yields fronts s xs t → FoldsTo R p xs q → (m : ℕ) × ReadTo l t m q.1
  unfolding digits_at
  read-from xs s t p q e z y f = read-along xs s t p q 0 (record {
    left = λ j. let h : 0 + j ≡ j = omega arith in rw (e, h) refl;
    many = omega (arith, ap length e);
    value = rw z refl;
  }) y f

  pub next-low : length l ≤ 16 → (xs : List (Bor ℕ)) (s t : Iter ℕ) (p q : F × ℕ) → s.rest.now ≡ l → p.1 ≡ 0 → Yields fronts s xs t → FoldsTo R p xs q
      → {b : ℕ} {bs : List ℕ} → t.rest.now ≡ b ∷ bs → 16 * q.1 + 15 < 2 ^ 64
  next-low few xs s t p q e z y f d =
      let h = read-from xs s t p q e z y f in
      digits-low l 0 h.0 q.1 (omega (arith, read-below h.1 d, few)) h.1.value

  -- the end is behind the last digit, or at a byte that is no digit
  pub read-whole : {stop : Bor ℕ → Type 0} {r : Option ℕ} → ((x : Bor ℕ) → stop x → (digit x.now ≡ None) × (r ≡ None))
      → (xs : List (Bor ℕ)) (o : Option (Bor ℕ)) (s t u : Iter ℕ) (p q : F × ℕ) → s.rest.now ≡ l → p.1 ≡ 0 → Yields fronts s xs t → fronts t o u → FoldsTo R p xs q
      → MatchOption o (r ≡ Some q.1) stop → r ≡ digits_at l 0 (length l)
  read-whole ends xs None s t u p q e z y d f m =
      let h = read-from xs s t p q e z y f in
      let k : h.0 ≡ length l = omega (arith, h.1.many, d.0) in
      m ∙ sym h.1.value ∙ ap (λ (n : ℕ). digits_at l 0 n) k
  read-whole ends xs (Some x) s t u p q e z y d f m =
      let h = read-from xs s t p q e z y f in
      let k = ends x m in
      k.1 ∙ digits-stop l 0 h.0 (length l) (read-below h.1 d) (rw (read-here h.1 d) k.0)

-- Bytes from another place of a line write the same number

pub digits_same : (k l : List ℕ) (p q w : ℕ) → ((j : ℕ) → j < w → get_or k (p + j) 0 ≡ get_or l (q + j) 0) → digits_at k p w ≡ digits_at l q w
unfolding digits_at
digits_same k l p q zero same = refl
digits_same k l p q (suc w) same = rw (digits_same k l p q w (λ j h. same j (omega arith)), same w (omega arith))

pub number_same : (k l : List ℕ) (p w : ℕ) → ((j : ℕ) → j < w + 1 → get_or k j 0 ≡ get_or l (p + j) 0) → number_at k 0 w ≡ number_at l p w
unfolding number_at
number_same k l p w same =
    let behind : (j : ℕ) → p + (1 + j) ≡ p + 1 + j = λ j. omega arith in
    let digits = digits_same k l 1 (p + 1) w (λ j h. same (1 + j) (omega arith) ∙ ap (λ (n : ℕ). get_or l n 0) (behind j)) in
    let here : p + 0 ≡ p = omega arith in
    let first : get_or k 0 0 ≡ get_or l p 0 = same 0 (omega arith) ∙ ap (λ (n : ℕ). get_or l n 0) here in
    rw (first, digits)

-- the digits behind a space
pub behind_space : (l : List ℕ) → get_or l 0 0 ≡ space → 1 ≤ length l
    → digits_at (take (length l - 1) (drop 1 l)) 0 (length (take (length l - 1) (drop 1 l))) ≡ number_at l 0 (length l - 1)
unfolding number_at
behind_space (b ∷ l) e h =
    let n : suc (length l) - 1 ≡ length l = omega arith in
    let all : take (length l) l ≡ l = take_all (length l) l (omega arith) in
    rw (n, e, all) (digits_same l (space ∷ l) 0 1 (length l) (λ j h. let e : 1 + j ≡ suc j = omega arith in rw (zero-add, e) refl))
behind_space [] e h = absurd (omega arith)

-- One byte that is no digit

pub number-stop : (l : List ℕ) (at i w : ℕ) → i < w → digit (get_or l (at + 1 + i) 0) ≡ None → number_at l at w ≡ None
unfolding number_at
number-stop l at i w h f = go (eqb (get_or l at 0) space)
  where
    go : (b : Bool) → cond b (digits_at l (at + 1) w) None ≡ None
    go true = sym (digits-stop l (at + 1) i w h f)
    go false = refl

-- Two's complement

-- std's cast to a signed number is the definition's
pub signed-cast : (n : ℕ) → to_z w64 n ≡ signed n
unfolding signed
signed-cast n = ap (λ k. cond (ltb n (2 ^ 63)) (pos n) (negsuc k)) (omega arith)
