-- Laws of one line: the count of its numbers, and the numbers joined with those of earlier lines. Assumes nothing.
use mathlib.Core.Bool.{Bool, true, false, cond, ◌&&◌}
use mathlib.Core.List.{List, [], ◌∷◌, ◌++◌, append_assoc, append-nil}
use mathlib.Core.Logic.{⊎_elim}
use mathlib.Core.Path.{◌≡◌, refl, sym, ap, ◌∙◌}
use Prim.Native.Nat.{ℕ, zero, suc, ◌+◌, ◌*◌, ◌-◌, ◌/◌, ◌%◌, ◌≤◌, ◌<◌}
use native.Mathlib.Nat.{div-add-mod', mul-le-mul_right, eq-or-lt_of_le, le_of_suc-le-suc}
use native.Mathlib.Numerals.{add-one}
use native.Mathlib.Omega.{arith}
use lib.Dec.{eqb, leb}
use lib.ListN.{length, get_or, take, drop}
use lib.Seq.{take_all}
use borrow.Author.Tests.{leb-true, eqb-true, le-leb, lt-leb}
use Rattle.std.proofs.Common.{inl, inr}
use Rattle.std.proofs.Math.Seq.{drop-append_seam}
use Rattle.std.proofs.lemmas.Bool.{cases_lt}
use Rattle.std.proofs.lemmas.List.{get_or-drop, get_or_append_left, drop-drop, length-append, length-drop}
use Rattle.std.specs.Prelude.{Option, Some, None}
use Rattle.text_numbers.specs.Numbers.{number_at}
use Rattle.texts.specs.Format.{word_length, most_on_line, count, one_more_number, numbers, after, join}

pub some_inj : {A : Type 0} {x y : A} → Some x ≡ Some y → x ≡ y
some_inj e = cc

-- a line of n numbers
pub record Counted (len w n : ℕ) : Type 0 where
  pub few : n ≤ most_on_line
  pub long : word_length + n * (w + 1) ≡ len

pub counted : (len w n : ℕ) → n ≡ count len w → (n ≡ 0 → ⊥) → Counted len w n
unfolding count
counted len w n e some-numbers = go (leb word_length len) (eqb ((len - word_length) % (w + 1)) 0) (leb d most_on_line) refl refl refl e
  where
    d : ℕ
    d = (len - word_length) / (w + 1)

    go : (p q r : Bool) → leb word_length len ≡ p → eqb ((len - word_length) % (w + 1)) 0 ≡ q → leb d most_on_line ≡ r → n ≡ cond (p && (q && r)) d 0 → Counted len w n
    go true true true hp hq hr f =
        let h : word_length ≤ len = leb-true _ _ hp in
        let z : (len - word_length) % (w + 1) ≡ 0 = eqb-true _ 0 hq in
        let k : d ≤ most_on_line = leb-true _ _ hr in
        rw f (record { few = k; long = omega (arith, h, z, div-add-mod' (len - word_length) (w + 1)) })
    go true true false hp hq hr f = absurd (some-numbers f)
    go true false r hp hq hr f = absurd (some-numbers f)
    go false q r hp hq hr f = absurd (some-numbers f)

-- The code goes over the bytes behind the word, as many at a time as a number and its space take.

-- as long as that many are left there are more numbers
pub number-left : {len w n i : ℕ} → Counted len w n → word_length + i * (w + 1) + (w + 1) ≤ len → i < n
number-left {w = w} {n = n} {i = i} c h = elim (cases_lt i n) [
  | inl less ↦ less
  | inr most ↦ absurd (omega (arith, c.long, h, mul-le-mul_right (w + 1) most))
]

-- where fewer are left, all numbers came
pub no_number_left : {len w n i : ℕ} → Counted len w n → word_length + i * (w + 1) ≤ len → len - (word_length + i * (w + 1)) < w + 1 → i ≡ n
no_number_left {w = w} {n = n} {i = i} c inside short = elim (cases_lt i n) [
  | inl less ↦ absurd (omega (arith, c.long, inside, short, mul-le-mul_right (w + 1) less))
  | inr most ↦ elim (cases_lt n i) [
    | inl more ↦ absurd (omega (arith, c.long, inside, mul-le-mul_right (w + 1) more))
    | inr least ↦ omega arith
  ]
]

-- the place of the number behind number i
pub next-place : (i w : ℕ) → word_length + (i + 1) * (w + 1) ≡ word_length + i * (w + 1) + (w + 1)
next-place i w = rw (add-one i) (omega arith)

-- the digits of the bytes of a number, which has a space before them
pub digits-behind : {size w : ℕ} → size ≡ w + 1 → size - 1 ≡ w
digits-behind e = omega arith

-- a part of a line: so many of its bytes from a place on
pub record PartOf (l : List ℕ) (at size : ℕ) (part rest : List ℕ) : Type 0 where
  pub bytes : (j : ℕ) → j < size → get_or part j 0 ≡ get_or l (at + j) 0
  pub left : rest ≡ drop (at + size) l
  pub inside : at + size ≤ length l

pub part-of : (l left part rest : List ℕ) (at size : ℕ) → left ≡ drop at l → left ≡ part ++ rest → length part ≡ size → at ≤ length l → PartOf l at size part rest
part-of l left part rest at size dropped cut long inside =
    let whole : drop at l ≡ part ++ rest = sym dropped ∙ cut in
    let lengths = ap length whole in
    record {
      bytes = λ j h. sym (get_or_append_left part rest 0 j (omega arith)) ∙ (ap (λ (k : List ℕ). get_or k j 0) (sym whole) ∙ get_or-drop at l j 0);
      left = rw (← long, ← drop-drop (length part) at l, whole) (sym (drop-append_seam part rest));
      inside = omega (arith, lengths, length-append part rest, length-drop at l);
    }

-- before the first number they are all that follow the word
pub behind_word : (l : List ℕ) (w : ℕ) → take (length l - word_length) (drop word_length l) ≡ drop (word_length + 0 * (w + 1)) l
behind_word l w =
    let start : word_length + 0 * (w + 1) ≡ word_length = omega arith in
    rw start (take_all (length l - word_length) (drop word_length l) (omega (arith, length-drop word_length l)))

module _ {A : Type 0} (value : ℕ → A) (w : ℕ) (l : List ℕ) where
  one_none : (o : Option (List A)) → one_more_number value o None ≡ None
  unfolding one_more_number
  one_none (Some xs) = refl
  one_none None = refl

  -- where one number is none, the line has none
  pub numbers-none : (i n : ℕ) → i < n → number_at l (word_length + i * (w + 1)) w ≡ None → numbers value w l n ≡ None
  unfolding numbers one_more_number
  numbers-none i zero h e = absurd (omega arith)
  numbers-none i (suc n) h e =
      ⊎_elim (λ (p : i ≡ n). rw (← p, e) (one_none (numbers value w l i))) (λ (p : i < n). rw (numbers-none i n p e)) (eq-or-lt_of_le (le_of_suc-le-suc h))

  -- What the code of `join` finds, behind the numbers xs

  module _ (xs : List A) where
    pub join-none : (most : ℕ) → count (length l) w ≡ 0 → None ≡ join value w most xs l
    unfolding join
    join-none most e = rw e

    module _ (most n : ℕ) (counted : n ≡ count (length l) w) (one : 0 < n) where
      pub join-over : most < length xs + n → None ≡ join value w most xs l
      unfolding join
      join-over h = rw (← counted, le-leb 1 n one, lt-leb (length xs + n) most h)

      pub join_reads : length xs + n ≤ most → join value w most xs l ≡ after xs (numbers value w l n)
      unfolding join
      join_reads h = rw (← counted, le-leb 1 n one, le-leb (length xs + n) most h)

      pub join-stops : length xs + n ≤ most → (i : ℕ) → i < n → number_at l (word_length + i * (w + 1)) w ≡ None → None ≡ join value w most xs l
      unfolding after
      join-stops h i k e = sym (join_reads h ∙ rw (numbers-none i n k e))

    pub joined_none : after xs (numbers value w l 0) ≡ Some xs
    unfolding after numbers
    joined_none = rw append-nil

    pub joined_more : (i v : ℕ) (ys : List A) → after xs (numbers value w l i) ≡ Some ys → number_at l (word_length + i * (w + 1)) w ≡ Some v
        → after xs (numbers value w l (i + 1)) ≡ Some (ys ++ (value v ∷ []))
    unfolding numbers after one_more_number
    joined_more i v ys e f = rw (add-one i, f) (go (numbers value w l i) e)
      where
        go : (o : Option (List A)) → after xs o ≡ Some ys → after xs (one_more_number value o (Some v)) ≡ Some (ys ++ (value v ∷ []))
        go (Some zs) g = let same : xs ++ zs ≡ ys = cc in rw (← append_assoc xs zs (value v ∷ []), same)
        go None g = absurd cc
