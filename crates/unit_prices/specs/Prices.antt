-- The kinds of column that are priced by the hour, and the price of an hour of each.
use Rattle.std.specs.Prelude.{[], ◌∷◌, ℕ, ◌+◌, ◌*◌, get_or}
use Rattle.sums.specs.Index.{box_of}
use Rattle.model.specs.declared.Counts.{Counts}
use Rattle.model.specs.Counts.{sets}
use Rattle.model.specs.Data.{Data, gen_cost, tax, emission, res_cost, voll, surplus_penalty, sres_voll}
use Rattle.model.specs.Columns.{column_sets}

-- the kinds of column that are priced by the hour: the columns of each are by year, plant or zone, and slice
pub data Hourly : ℕ → Type 0 where
  gen : Hourly 3
  reserve : Hourly 4
  unmet : Hourly 6
  surplus : Hourly 7
  spinshort : Hourly 8

-- the code of a table's index set, how many plants or zones it has, and how many second zones
abbrev pub set_of : ℕ → ℕ
set_of t = get_or column_sets t 0

abbrev pub firsts_of : Counts → ℕ → ℕ
firsts_of c t = (box_of (sets c) (set_of t)).firsts

abbrev pub seconds_of : Counts → ℕ → ℕ
seconds_of c t = (box_of (sets c) (set_of t)).seconds

-- the price of an hour of table t, without the factor W of the year
unfoldable pub hour_price : Data → ℕ → ℕ → ℕ → ℕ
hour_price D t y i =
    get_or (0 ∷ 0 ∷ 0 ∷ (gen_cost D y i + tax D y * emission D i) ∷ res_cost D i ∷ 0 ∷ voll D ∷ surplus_penalty D ∷ sres_voll D ∷ []) t 0
