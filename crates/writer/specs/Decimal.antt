-- A number in decimal, as a list of bytes.
use Rattle.std.specs.Prelude.{cond, List, [], ◌∷◌, ◌++◌, ℕ, zero, suc, ◌+◌, ◌/◌, ◌%◌, ltb}

-- the digit of a number below 10: `0` is byte 48
abbrev pub digit : ℕ → ℕ
digit d = 48 + d

-- The decimal digits of n, the most significant first: n itself where it is below 10, else those of n / 10 and then that of n % 10.
-- The first argument bounds the divisions by 10; a number n takes at most n of them.
unfoldable pub digits_within : ℕ → ℕ → List ℕ
digits_within zero n = digit n ∷ []
digits_within (suc divisions) n = cond (ltb n 10) (digit n ∷ []) (digits_within divisions (n / 10) ++ (digit (n % 10) ∷ []))

unfoldable pub decimal : ℕ → List ℕ
decimal n = digits_within n n
