-- The year's parts of the tables by year, plant and slice.
use Rattle.std.specs.Prelude.{◌≡◌, List, ℕ, ◌+◌, ◌*◌, ◌<◌, length, get_or}
use Rattle.sums.specs.Index.{index}
use Rattle.model.specs.declared.Counts.{Counts}
use Rattle.model.specs.Counts.{slices_of}
use Rattle.tables.specs.Layout.{plan_entry}

-- the kinds of column by plant and slice whose parts are lent
abbrev pub gen_kind : ℕ
gen_kind = 3

abbrev pub reserve_kind : ℕ
reserve_kind = 4

abbrev pub charge_kind : ℕ
charge_kind = 10

abbrev pub level_kind : ℕ
level_kind = 11

-- a year's part of table t of columns by year, plant and slice (gen, reserve, charge or level): entry g, s stands at g·S + s
pub record YearPart (plan part : List ℕ) (c : Counts) (t y : ℕ) : Type 0 where
  pub long : length part ≡ c.plants * slices_of c
  pub is : (g s : ℕ) → g < c.plants → s < slices_of c → get_or part (g * slices_of c + s) 0 ≡ plan_entry c plan (index t y g 0 s)
