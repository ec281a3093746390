-- The verdict on a row, as the code finds it.
use Rattle.model.specs.declared.Refusal.{Refusal}
use Rattle.std.specs.Prelude.{Bool, cond, ◌||◌, ℕ, Option, Some, None, Result, Ok, Err}
use Rattle.std.specs.declared.cmp.Ordering.{Ordering}
use Rattle.std.specs.declared.cmp.Ordering.TheVariants.{Less, Equal, Greater}
use Rattle.compared.specs.Compared.{over, order}
use Rattle.model.specs.declared.Refusal.TheVariants.{RowOffScale, Broken}
use Rattle.row_sums.specs.declared.Sides.{Sides}

-- whether a row holds, by how its negative terms compare with its positive ones
abbrev pub ordered : Bool → Option Ordering → ℕ → Result (Unit {0}) Refusal
ordered e (Some Less) row = cond e (Err (Broken row)) (Ok tt)
ordered e (Some Equal) row = Ok tt
ordered e (Some Greater) row = Err (Broken row)
ordered e None row = Err (Broken row)

-- 6 where a sum is over the limit, else 7 where the row does not hold
unfoldable pub verdict_of : Sides → Bool → ℕ → Result (Unit {0}) Refusal
verdict_of v e row = cond (over v.above || over v.below) (Err (RowOffScale row)) (ordered e (order v.below v.above) row)
