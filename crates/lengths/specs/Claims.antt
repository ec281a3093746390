-- What is proved of lengths in bits, as statements; the proofs are in proofs/Laws.antt. They hold of every number, so of every factor below 2^64.
use Rattle.std.specs.Prelude.{◌≡◌, ℕ, ◌+◌, ◌*◌, ◌-◌, ◌^◌, ◌<◌, ◌≤◌}
use Rattle.lengths.specs.Length.{bit_length}

-- the length is what it says: so many bits hold the number, and no fewer
abbrev pub LengthHolds : Type 0
LengthHolds = (n : ℕ) → n < 2 ^ bit_length n

abbrev pub LengthLeast : Type 0
LengthLeast = (n k : ℕ) → n < 2 ^ k → bit_length n ≤ k

abbrev pub LengthOfZero : Type 0
LengthOfZero = bit_length 0 ≡ 0

-- request (iii): where the lengths of two factors add up to 62 or less, the product is at most 2^62 − 1
abbrev pub ProductFits : Type 0
ProductFits = (a b : ℕ) → bit_length a + bit_length b ≤ 62 → a * b ≤ 2 ^ 62 - 1

-- how close that is: where neither factor is 0 and the lengths add up to 64 or more, the product is above 2^62 − 1
abbrev pub ProductAbove : Type 0
ProductAbove = (a b : ℕ) → 0 < a → 0 < b → 64 ≤ bit_length a + bit_length b → 2 ^ 62 - 1 < a * b
