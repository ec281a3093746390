-- What a reader asks of the table that it is given.
use Rattle.std.specs.Prelude.{◌≡◌, ℕ, ◌<◌, length, get_or}
use Rattle.model.specs.Counts.{[g]}
use Rattle.model.specs.Data.{tables}
use Rattle.tables.specs.Layout.{table_sets}

-- a table of the data by plant
pub record PlantTable (t : ℕ) : Type 0 where
  pub table : t < length tables
  pub set : get_or table_sets t 0 ≡ [g]
