-- The laws of lengths in bits: what a length says of its number, what two lengths say of the product, and how a count of leading zeros gives the length. Assumes nothing.
use mathlib.Core.Path.{◌≡◌, refl, sym}
use mathlib.Core.Bool.{Bool, true, false, cond}
use mathlib.Core.Logic.{◌⊎◌, inl, inr}
use Prim.Native.Nat.{ℕ, zero, suc, ◌+◌, ◌*◌, ◌-◌, ◌^◌, ◌<◌, ◌≤◌, zero-le}
use native.Mathlib.Nat.{mul-le-mul, mul-le-mul_left, mul-lt-mul_of_pos_right, le_of_lt, lt_of_lt_of_le, lt_of_le_of_lt, le_trans, le_of_eq, lt_irrefl, lt_of_not-le, le_of_suc-le-suc, add-zero, zero-add, eq-zero-or-pos, pow-suc}
use native.Mathlib.Omega.{arith}
use lib.Count.{count_leading_zeros, leading_unique}
use lib.Dec.{ltb}
use lib.Pow.{pow_pos, pow-add, pow_mono}
use borrow.Author.Tests.{ltb-true, ltb-false}
use Rattle.lengths.specs.Length.{bits_from, bit_length}
use Rattle.lengths.specs.Claims.{LengthHolds, LengthLeast, LengthOfZero, ProductFits, ProductAbove}

-- The length holds its number, and is the least that does

below_power : (n : ℕ) → n < 2 ^ n
below_power zero = omega arith
below_power (suc n) = omega (arith, below_power n, pow-suc 2 n)

-- the number at which the search stops, by what its test finds
stops : (A : ℕ → Type 0) (n k rest : ℕ) → (n < 2 ^ k → A k) → (2 ^ k ≤ n → A rest) → A (cond (ltb n (2 ^ k)) k rest)
stops A n k rest here on = go (ltb n (2 ^ k)) refl
  where
    go : (b : Bool) → ltb n (2 ^ k) ≡ b → A (cond b k rest)
    go true e = here (ltb-true n (2 ^ k) e)
    go false e = on (ltb-false n (2 ^ k) e)

from-holds : (more k n : ℕ) → n < 2 ^ (k + more) → n < 2 ^ bits_from more k n
unfolding bits_from
from-holds zero k n h = rw (add-zero k) at h
from-holds (suc more) k n h =
    let next : k + suc more ≡ suc k + more = omega arith in
    stops (λ m. n < 2 ^ m) n k (bits_from more (suc k) n) (λ l. l) (λ _. from-holds more (suc k) n (rw next at h))

-- a power of 2 that is at most n has fewer bits than one above it
power-order : {k m n : ℕ} → 2 ^ k ≤ n → n < 2 ^ m → k < m
power-order {k} {m} {n} l h = lt_of_not-le (λ (g : m ≤ k). lt_irrefl n (lt_of_lt_of_le h (le_trans (pow_mono g) l)))

from-least : (more k n m : ℕ) → k ≤ m → n < 2 ^ m → bits_from more k n ≤ m
unfolding bits_from
from-least zero k n m l h = l
from-least (suc more) k n m l h =
    stops (λ b. b ≤ m) n k (bits_from more (suc k) n) (λ _. l) (λ g. from-least more (suc k) n m (power-order g h) h)

pub length-holds : LengthHolds
unfolding bit_length
length-holds n = from-holds n 0 n (rw (zero-add n) (below_power n))

pub length-least : LengthLeast
unfolding bit_length
length-least n k h = from-least n 0 n k zero-le h

pub length-of-zero : LengthOfZero
unfolding bit_length bits_from
length-of-zero = refl

-- one bit fewer does not hold it
pub length-needed : (n : ℕ) → 0 < n → 2 ^ bit_length n ≤ 2 * n
length-needed n p = go (bit_length n) (λ k l. length-least n k l)
  where
    go : (m : ℕ) → ((k : ℕ) → n < 2 ^ k → m ≤ k) → 2 ^ m ≤ 2 * n
    go zero least = omega arith
    go (suc m) least = let fewer : 2 ^ m ≤ n = le_of_suc-le-suc (lt_of_not-le (λ g. lt_irrefl m (least m g))) in omega (arith, fewer, pow-suc 2 m)

-- The count of leading zeros

length-within : (n : ℕ) → 2 ^ bit_length n ≤ 2 * n + 1
unfolding bit_length bits_from
length-within zero = omega arith
length-within (suc n) = omega (arith, length-needed (suc n) (omega arith))

pub leading-bits : (n : ℕ) → n < 2 ^ 64 → count_leading_zeros 64 n + bit_length n ≡ 64
leading-bits n h =
    let most = length-least n 64 h in
    let rest : 64 - bit_length n + bit_length n ≡ 64 = omega arith in
    omega (arith, leading_unique 64 n (64 - bit_length n) (bit_length n) rest (length-holds n) (length-within n), most)

-- Two lengths bound the product: from above, and from below where neither number is 0

pub product-below : (a b k : ℕ) → bit_length a + bit_length b ≤ k → a * b < 2 ^ k
product-below a b k h =
    lt_of_le_of_lt (mul-le-mul_left a (le_of_lt (length-holds b)))
    (lt_of_lt_of_le (mul-lt-mul_of_pos_right (length-holds a) (pow_pos (bit_length b)))
    (le_trans (le_of_eq (sym (pow-add 2 (bit_length a) (bit_length b)))) (pow_mono h)))

pub product-reaches : (a b k : ℕ) → 0 < a → 0 < b → k + 2 ≤ bit_length a + bit_length b → 2 ^ k ≤ a * b
product-reaches a b k p q h =
    let four : 2 ^ (k + 2) ≤ 2 * a * (2 * b) =
    le_trans (pow_mono h) (le_trans (le_of_eq (pow-add 2 (bit_length a) (bit_length b))) (mul-le-mul (length-needed a p) (length-needed b q))) in
    omega (arith, four, pow-add 2 k 2)

pub product-fits : ProductFits
product-fits a b h = omega (arith, product-below a b 62 h)

pub product-above : ProductAbove
product-above a b p q h = omega (arith, product-reaches a b 62 p q h)

-- Two lengths that add up to more than 64 are those of numbers other than 0, since a number below 2^64 takes at most 64 bits

other-positive : (a b : ℕ) → b < 2 ^ 64 → 64 < bit_length a + bit_length b → 0 < a
other-positive a b h l = go (eq-zero-or-pos a)
  where
    go : (a ≡ 0) ⊎ (0 < a) → 0 < a
    go (inl z) = omega (arith, length-least b 64 h, length-least a 0 (omega arith))
    go (inr p) = p

pub product-beyond : (a b : ℕ) → a < 2 ^ 64 → b < 2 ^ 64 → 64 < bit_length a + bit_length b → 2 ^ 62 - 1 < a * b
product-beyond a b x y h = product-above a b (other-positive a b y h) (other-positive b a x (omega arith)) (omega arith)
