-- The verdict on a column, as the code finds it.
use Rattle.model.specs.declared.Refusal.{Refusal}
use Rattle.std.specs.Prelude.{cond, ◌||◌, ℕ, Option, Some, None, Result, Ok, Err}
use Rattle.std.specs.declared.cmp.Ordering.{Ordering}
use Rattle.std.specs.declared.cmp.Ordering.TheVariants.{Less, Equal, Greater}
use Rattle.capped.specs.Cap.{both, Sum}
use Rattle.compared.specs.Compared.{over, order}
use Rattle.model.specs.declared.Refusal.TheVariants.{ColumnOffScale, Underpriced}
use Rattle.column_terms.specs.declared.Pair.{Pair}

-- whether a column is priced well, by how its terms above zero compare with its price and its terms below
abbrev pub ordered : Option Ordering → ℕ → Result (Unit {0}) Refusal
ordered (Some Less) column = Ok tt
ordered (Some Equal) column = Ok tt
ordered (Some Greater) column = Err (Underpriced column)
ordered None column = Err (Underpriced column)

-- 11 where a sum is over the limit, else 12 where the column is not priced well
unfoldable pub verdict_of : Pair → Sum → ℕ → Result (Unit {0}) Refusal
verdict_of v price column = cond (over v.up || over v.down) (Err (ColumnOffScale column)) (ordered (order v.up (both price v.down)) column)
