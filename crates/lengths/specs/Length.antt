-- The length of a number in bits.
use Rattle.std.specs.Prelude.{ℕ, zero, suc, ◌^◌, cond, ltb}

-- The least of the numbers k, k + 1, .. whose bits hold n; k + more, where none before it does.
unfoldable pub bits_from : ℕ → ℕ → ℕ → ℕ
bits_from zero k n = k
bits_from (suc more) k n = cond (ltb n (2 ^ k)) k (bits_from more (suc k) n)

-- The length of n in bits: 0 for 0, otherwise the least number of bits that hold it. The numbers up to n are enough to look at, since n is below 2 ^ n.
unfoldable pub bit_length : ℕ → ℕ
bit_length n = bits_from n 0 n
