-- Laws of words added to a line, of decimal digits, and of names by number.
use mathlib.Core.Path.{◌≡◌, refl, sym, ap, ◌∙◌}
use mathlib.Core.Logic.{◌⊎◌, inl, inr, ⊎_elim}
use mathlib.Core.List.{List, [], ◌∷◌, ◌++◌, map, append_assoc, append-nil}
use Prim.Native.Nat.{ℕ, zero, suc, min, ◌+◌, ◌-◌, ◌/◌, ◌%◌, ◌^◌, ◌≤◌, ◌<◌}
use native.Mathlib.Nat.{eq-zero-or-pos, pow-suc, sub-zero}
use native.Mathlib.Omega.{arith}
use mathlib.Core.Bool.{true, false}
use lib.Dec.{ltb}
use lib.ListN.{length, get_or, take, length-append}
use lib.Seq.{take-nil, take_all}
use borrow.Author.Tests.{lt-ltb, le-ltb, true-ltb, false-ltb}
use denote.Bor.{Bor}
use Rattle.std.specs.Fmt.{decimal as shown}
use Rattle.std.proofs.lemmas.Fmt.{decimal_by_steps}
use Rattle.std.proofs.Math.Nat.{min_comm}
use Rattle.std.proofs.lemmas.List.{get_or_past, get_or-map, length-map, take_min}
use Rattle.writer.specs.Decimal.{digit, digits_within, decimal}
use Rattle.writer.specs.Writing.{added}

-- Words added one after the other.

take-joined : (n : ℕ) (p q : List ℕ) → take n p ++ take (n - length (take n p)) q ≡ take n (p ++ q)
take-joined zero p q = refl
take-joined (suc n) [] q = rw sub-zero refl
take-joined (suc n) (b ∷ p) q =
    let e : suc n - suc (length (take n p)) ≡ n - length (take n p) = omega arith in
    rw e (ap (λ (l : List ℕ). b ∷ l) (take-joined n p q))

-- no words
pub added-none : (size : ℕ) (l : List ℕ) → added size l [] ≡ l
unfolding added
added-none size l = rw take-nil (append-nil l)

-- several words at once are each behind the one before
pub added_joined : (size : ℕ) (l p q : List ℕ) → added size l (p ++ q) ≡ added size (added size l p) q
unfolding added
added_joined size l p q =
    let n = size - length l in
    let m : size - length (l ++ take n p) ≡ n - length (take n p) = omega (arith, length-append l (take n p)) in
    rw (m, append_assoc) (ap (λ (k : List ℕ). l ++ k) (sym (take-joined n p q)))

-- the same of the line before, between and after
pub said-joined : (size : ℕ) (l p q : List ℕ) {m k : List ℕ} → m ≡ added size l p → k ≡ added size m q → k ≡ added size l (p ++ q)
said-joined size l p q e f = f ∙ rw (e, added_joined size l p q)

-- from the start of a line
pub added-whole : (size : ℕ) (p : List ℕ) → added size [] p ≡ take size p
unfolding added
added-whole size p = rw sub-zero refl

-- The digits do not depend on the bound of the divisions.

pub low_or_high : (n : ℕ) → (n < 10) ⊎ (10 ≤ n)
low_or_high n = ⊎_elim (λ (z : n / 10 ≡ 0). inl (omega arith)) (λ (p : 0 < n / 10). inr (omega arith)) (eq-zero-or-pos (n / 10))

pub within_low : (k n : ℕ) → n < 10 → digits_within k n ≡ digit n ∷ []
unfolding digits_within
within_low zero n h = refl
within_low (suc k) n h = rw (lt-ltb n 10 h)

pub within-high : (k n : ℕ) → 10 ≤ n → digits_within (suc k) n ≡ digits_within k (n / 10) ++ (digit (n % 10) ∷ [])
unfolding digits_within
within-high k n h = rw (le-ltb n 10 h)

within_same : (a b n : ℕ) → n < 10 ^ suc a → n < 10 ^ suc b → digits_within a n ≡ digits_within b n
within_same zero b n h k = rw (within_low 0 n (omega arith), within_low b n (omega arith))
within_same (suc a) zero n h k = rw (within_low (suc a) n (omega arith), within_low 0 n (omega arith))
within_same (suc a) (suc b) n h k =
    ⊎_elim (λ (low : n < 10). rw (within_low (suc a) n low, within_low (suc b) n low))
    (λ (high : 10 ≤ n). rw (within-high a n high, within-high b n high, within_same a b (n / 10) (omega (arith, pow-suc 10 (suc a))) (omega (arith, pow-suc 10 (suc b)))))
    (low_or_high n)

enough : (n : ℕ) → n < 10 ^ suc n
enough zero = omega arith
enough (suc n) = omega (arith, pow-suc 10 (suc n), enough n)

-- a number below 10 to the k + 1 takes at most k divisions
pub decimal-few : (k n : ℕ) → n < 10 ^ suc k → decimal n ≡ digits_within k n
unfolding decimal
decimal-few k n h = within_same n k n (enough n) h

decimal-low : (n : ℕ) → n < 10 → decimal n ≡ digit n ∷ []
unfolding decimal
decimal-low n h = within_low n n h

decimal-high : (n : ℕ) → 10 ≤ n → decimal n ≡ decimal (n / 10) ++ (digit (n % 10) ∷ [])
unfolding decimal
decimal-high zero h = absurd (omega arith)
decimal-high (suc n) h = within-high n (suc n) h ∙ rw (within_same n (suc n / 10) (suc n / 10) (omega (arith, enough n)) (enough (suc n / 10)))

within-length : (k n : ℕ) → length (digits_within k n) ≤ suc k
unfolding digits_within
within-length zero n = omega arith
within-length (suc k) n =
    ⊎_elim (λ (low : n < 10). rw (within_low (suc k) n low) (omega arith))
    (λ (high : 10 ≤ n). rw (within-high k n high, length-append) (omega (arith, within-length k (n / 10))))
    (low_or_high n)

pub decimal-length : (n : ℕ) → n < 2 ^ 64 → length (decimal n) ≤ 20
decimal-length n h = rw (decimal-few 19 n (omega arith)) (within-length 19 n)

-- the library's digits of a number are these
pub shown_decimal : (n : ℕ) → n < 2 ^ 64 → shown n ≡ decimal n
shown_decimal n h =
    decimal_by_steps (λ (n : ℕ) (ds : List ℕ). ds ≡ decimal n) (λ n low. sym (decimal-low n low))
    (λ n ds high e. rw e (sym (decimal-high n high))) n h

-- as many words as there is room for
pub take_fitting : (n : ℕ) (words : List ℕ) → take (min (length words) n) words ≡ take n words
take_fitting n words = rw (min_comm (length words) n) (take_min n words)

-- The list of number k, of lists that the code lends.

module _ {A : Type 0} (lists : List (Bor (List A))) (k : ℕ) where
  pub list-found : {list : Bor (List A)} → true ≡ ltb k (length lists) → list ≡ get_or lists k list → get_or (map (λ (lent : Bor (List A)). lent.now) lists) k [] ≡ list.now
  list-found {list} h e = get_or-map (λ (lent : Bor (List A)). lent.now) lists k list [] (true-ltb k (length lists) h) ∙ ap (λ (lent : Bor (List A)). lent.now) (sym e)

  pub list-past : false ≡ ltb k (length lists) → get_or (map (λ (lent : Bor (List A)). lent.now) lists) k [] ≡ []
  list-past h = get_or_past (map (λ (lent : Bor (List A)). lent.now) lists) k [] (rw length-map (false-ltb k (length lists) h))

-- words that there is room for
pub added-fitting : (size : ℕ) (l p : List ℕ) → length l + length p ≤ size → added size l p ≡ l ++ p
unfolding added
added-fitting size l p h = rw (take_all (size - length l) p (omega arith))

-- the laws of a name that is asked for
pub ruleset names_by_number = (added-none, list-found, list-past)
