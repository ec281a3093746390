-- What the functions of `compared` answer, at every `Sum`.
use Rattle.std.specs.Prelude.{ℕ, ◌+◌, ◌-◌, Bool, true, false, cond, ◌&&◌, leb, ltb, Option, Some, None, Result, Ok, Err}
use Rattle.std.specs.declared.cmp.Ordering.{Ordering}
use Rattle.std.specs.Ordering.{nat_cmp}
use Rattle.std.specs.declared.cmp.Ordering.TheVariants.{Less, Equal, Greater}
use Rattle.capped.specs.Cap.{Sum, limit}
use Rattle.compared.specs.declared.NoBalance.{NoBalance}
use Rattle.compared.specs.declared.NoBalance.TheVariants.{BelowZero, Unsure}

-- What is left when one sum is taken from others: a number, or why there is none.
abbrev pub Balance : Type 0
Balance = Result ℕ NoBalance

-- The order of two sums, where it is known.
unfoldable pub order : Sum → Sum → Option Ordering
order (Some v) (Some w) = Some (nat_cmp v w)
order (Some v) None = Some Less
order None (Some w) = Some Greater
order None None = None

-- Whether a sum is above the limit.
unfoldable pub over : Sum → Bool
over (Some v) = false
over None = true

-- m - n of two numbers
abbrev pub minus : ℕ → ℕ → Balance
minus m n = cond (ltb m n) (Err BelowZero) (Ok (m - n))

-- a + b - c, where all three are exact. The first two count as over where they are above the limit.
unfoldable pub net_of : Sum → Sum → Sum → Balance
net_of None t u = Err Unsure
net_of (Some a) None u = Err Unsure
net_of (Some a) (Some b) None = Err Unsure
net_of (Some a) (Some b) (Some c) = cond (leb a limit && leb b limit) (minus (a + b) c) (Err Unsure)
