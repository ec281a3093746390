-- A multiplier by its two parts, and what the readers of multipliers rely on.
use Rattle.std.specs.Prelude.{◌≡◌, List, ℕ, ◌≤◌, ℤ, length, get_or}
use Rattle.sums.specs.Index.{start, count}
use Rattle.model.specs.declared.Counts.{Counts}
use Rattle.model.specs.declared.Shape.{Shape}
use Rattle.model.specs.Families.{families, row_boxes, shape_of}
use Rattle.model.specs.Tests.{part⁺, part⁻}
use Rattle.tables.specs.Layout.{Counted}
use Rattle.duals.specs.declared.Multiplier.{Multiplier}

-- the size above zero, and the size below
unfoldable pub multiplier_of : ℤ → Multiplier
multiplier_of m = record { up = part⁺ m; down = part⁻ m }

-- the shape record of counts that passed refusal 1
pub record Shaped (shape : Shape) : Type 0 where
  pub counted : Counted shape.counts
  pub sized : shape ≡ shape_of shape.counts

-- a multiplier for every row, and the row numbers at which the families start
pub record RowsAt (ms : List ℤ) (rows_at : List ℕ) (c : Counts) : Type 0 where
  pub whole : length ms ≡ count (row_boxes c)
  pub starts : (k : ℕ) → k ≤ length families → get_or rows_at k 0 ≡ start (row_boxes c) k
