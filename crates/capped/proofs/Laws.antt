-- The laws of capped sums. Callers cite these, and open no definition of `specs/Cap.antt`.
--
-- A law's name is FACT-FUNCTION where it gives the function's answer from the fact, and FUNCTION-ANSWER where it gives the fact from the
-- answer. No law but `limit-least` rests on what number `limit` is. Assumes nothing.
use mathlib.Core.Path.{◌≡◌, refl, sym, ap, ◌∙◌}
use mathlib.Core.Bool.{Bool, true, false, ◌&&◌}
use mathlib.Core.Logic.{◌⊎◌, inl, inr, ⊎_elim}
use Prim.Native.Nat.{ℕ, ◌+◌, ◌*◌, ◌-◌, ◌^◌, ◌<◌, ◌≤◌, zero-le}
use native.Mathlib.Nat.{add-zero, mul-zero, lt_of_lt_of_le, le-mul_of_pos_right, eq-zero-or-pos, mul_comm}
use native.Mathlib.Omega.{arith}
use lib.Dec.{leb}
use lib.ListN.{get_or}
use borrow.Author.Tests.{le-leb, lt-leb, leb-true, leb-false, ne_eqb}
use Rattle.lengths.specs.Length.{bit_length}
use Rattle.lengths.proofs.Laws.{length-least}
use Rattle.std.specs.Prelude.{Some, None}
use Rattle.capped.specs.Cap.{Sum, straight, half, limit, cap, plus, both, times, times_both, kept_as, kept_sum}

pub le-or-lt : (m n : ℕ) → (m ≤ n) ⊎ (n < m)
le-or-lt m n = go (leb m n) refl
  where
    go : (b : Bool) → leb m n ≡ b → (m ≤ n) ⊎ (n < m)
    go true e = inl (leb-true m n e)
    go false e = inr (leb-false m n e)

-- The limit and `cap`

pub limit-least : 2 ^ 62 - 1 ≤ limit
unfolding limit
limit-least = omega arith

pub cap-low : (n : ℕ) → n ≤ limit → cap n ≡ Some n
unfolding cap
cap-low n h = rw (le-leb n limit h)

pub cap-high : (n : ℕ) → limit < n → cap n ≡ None
unfolding cap
cap-high n h = rw (lt-leb n limit h)

pub cap-zero : cap 0 ≡ Some 0
cap-zero = cap-low 0 zero-le

-- The two ways in which a sum is `cap n`. Most laws go by cases on them.
pub data Capped (n : ℕ) : Sum → Type 0 where
  low : n ≤ limit → Capped n (Some n)
  high : limit < n → Capped n None

pub capped : (n : ℕ) → Capped n (cap n)
capped n =
    ⊎_elim (λ (h : n ≤ limit). rw (cap-low n h) (low h)) (λ (h : limit < n). rw (cap-high n h) (high h)) (le-or-lt n limit)

-- Sums

pub plus-cap : (m n : ℕ) → plus (cap m) n ≡ cap (m + n)
unfolding plus
plus-cap m n = go (capped m)
  where
    go : {s : Sum} → Capped m s → plus s n ≡ cap (m + n)
    go (low h) = refl
    go (high h) = sym (cap-high (m + n) (omega arith))

pub plus-zero : (m : ℕ) → plus (cap m) 0 ≡ cap m
plus-zero m = plus-cap m 0 ∙ ap cap (add-zero m)

-- This and `both-plus` hold of every sum, also of one that is no `cap`.
pub plus-plus : (s : Sum) (m n : ℕ) → plus (plus s m) n ≡ plus s (m + n)
unfolding plus
plus-plus (Some v) m n = plus-cap (v + m) n ∙ ap cap (omega arith)
plus-plus None m n = refl

-- What the code of `add` finds.
pub high-add : {s : Sum} {v : ℕ} (n : ℕ) → s ≡ Some v → limit < v + n → None ≡ plus s n
unfolding plus
high-add {s} {v} n e h = rw e (sym (cap-high (v + n) h))

pub both-plus : (s : Sum) (n : ℕ) → both s (cap n) ≡ plus s n
unfolding both plus
both-plus s n = go s (capped n)
  where
    go : (s : Sum) {t : Sum} → Capped n t → both s t ≡ plus s n
    go s (low h) = refl
    go (Some v) (high h) = sym (cap-high (v + n) (omega arith))
    go None (high h) = refl

pub both-cap : (m n : ℕ) → both (cap m) (cap n) ≡ cap (m + n)
both-cap m n = both-plus (cap m) n ∙ plus-cap m n

-- Products. The first is what the code of `product` finds of two factors with half the bits.

pub small-lengths : (a b : ℕ) {f : Bool} → f ≡ (leb a half && leb b half) → f ≡ true → bit_length a + bit_length b ≤ straight
small-lengths a b e t = go (leb a half) (leb b half) refl refl (sym e ∙ t)
  where
    not-both : false ≡ true → ⊥
    not-both z = let w : ◌≡◌ {A = ℕ} 0 1 = cc in omega arith

    short : (n : ℕ) → leb n half ≡ true → bit_length n ≤ 31
    short n s = let h = leb-true n half s in length-least n 31 (omega arith)

    go : (p q : Bool) → leb a half ≡ p → leb b half ≡ q → (p && q) ≡ true → bit_length a + bit_length b ≤ straight
    go true true x y z = omega (arith, short a x, short b y)
    go true false x y z = absurd (not-both z)
    go false q x y z = absurd (not-both z)

pub times_zero : (s : Sum) → times s 0 ≡ cap 0
unfolding times
times_zero (Some v) = ap cap (mul-zero v)
times_zero None = refl

-- What the code of `scale` finds.
pub zero-scale : (s : Sum) (n : ℕ) → n ≡ 0 → Some 0 ≡ times s n
zero-scale s n z = rw (z, times_zero, cap-zero)

pub times-over : (n : ℕ) → (n ≡ 0 → ⊥) → times None n ≡ None
unfolding times
times-over n h = rw (ne_eqb n 0 h)

pub times-cap : (m n : ℕ) → times (cap m) n ≡ cap (m * n)
unfolding times
times-cap m n = go (capped m) (eq-zero-or-pos n)
  where
    go : {s : Sum} → Capped m s → (n ≡ 0) ⊎ (0 < n) → times s n ≡ cap (m * n)
    go (low h) e = refl
    go (high h) (inl z) = rw (z, mul-zero m)
    go (high h) (inr p) = times-over n (λ z. omega arith) ∙ sym (cap-high (m * n) (lt_of_lt_of_le h (le-mul_of_pos_right m p)))

pub times-both : (m n : ℕ) → times_both (cap m) (cap n) ≡ cap (m * n)
unfolding times_both
times-both m n = go (capped m) (capped n)
  where
    go : {s t : Sum} → Capped m s → Capped n t → times_both s t ≡ cap (m * n)
    go (low h) (low k) = rw (← cap-low m h) (times-cap m n)
    go (high h) (low k) = rw (← cap-high m h) (times-cap m n)
    go (low h) (high k) = rw (← cap-high n k) (times-cap n m ∙ ap cap (mul_comm n m))
    go (high h) (high k) = sym (cap-high (m * n) (lt_of_lt_of_le h (le-mul_of_pos_right m (omega arith))))

-- A sum that was stored comes back

pub kept-cap : (n : ℕ) → kept_sum (kept_as (cap n)) ≡ cap n
unfolding kept_as kept_sum
kept-cap n = go (capped n)
  where
    go : {s : Sum} → Capped n s → cap (get_or (kept_as s) 0 0) ≡ s
    go (low h) = cap-low n h
    go (high h) = cap-high (limit + 1) (omega arith)
