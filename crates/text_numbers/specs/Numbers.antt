-- The numbers of a line of the text that the certify program reads (document 01, "The certify program"). A line is a list of bytes.
use Rattle.std.specs.Prelude.{cond, ◌&&◌, List, ℕ, zero, suc, ◌+◌, ◌*◌, ◌-◌, ◌^◌, eqb, leb, ltb, ℤ, pos, negsuc, get_or, Option, Some, None}

abbrev pub space : ℕ
space = 32

-- the value of a capital hexadecimal digit: 0 to 9 are the bytes 48 to 57, A to F the bytes 65 to 70
unfoldable pub digit : ℕ → Option ℕ
digit b = cond (leb 48 b && leb b 57) (Some (b - 48)) (cond (leb 65 b && leb b 70) (Some (b - 55)) None)

-- a number with one digit more
unfoldable pub with_digit : Option ℕ → Option ℕ → Option ℕ
with_digit (Some v) (Some d) = Some (16 * v + d)
with_digit (Some v) None = None
with_digit None d = None

-- the number that w bytes of a line write, from the place `at` on, the highest digit first
unfoldable pub digits_at : List ℕ → ℕ → ℕ → Option ℕ
digits_at l at zero = Some 0
digits_at l at (suc w) = with_digit (digits_at l at w) (digit (get_or l (at + w) 0))

-- a number of w digits after one space
unfoldable pub number_at : List ℕ → ℕ → ℕ → Option ℕ
number_at l at w = cond (eqb (get_or l at 0) space) (digits_at l (at + 1) w) None

-- two's complement of 64 bits
unfoldable pub signed : ℕ → ℤ
signed n = cond (ltb n (2 ^ 63)) (pos n) (negsuc (2 ^ 64 - 1 - n))
