-- The figures of a row, a column and an entry, by the model's definitions. A sum above the limit has no figure.
use Rattle.std.specs.Prelude.{List, ℕ, ◌+◌, ℤ}
use Rattle.capped.specs.Cap.{cap}
use Rattle.compared.specs.Compared.{net_of}
use Rattle.sums.specs.Index.{Index, index}
use Rattle.model.specs.Data.{Data}
use Rattle.model.specs.Prices.{price}
use Rattle.model.specs.Tests.{above, below, priced⁺, priced⁻}
use Rattle.ranges.specs.Ranges.{range_of}
use Rattle.row_sums.specs.declared.Sides.{Sides}
use Rattle.figures.specs.declared.ColumnFigures.{ColumnFigures}
use Rattle.figures.specs.declared.EntryFigures.{EntryFigures}

-- a row's two sums, of a plan's entries x at scale N
unfoldable pub row_figures : Data → ℕ → (Index → ℕ) → Index → Sides
row_figures D N x r = record { above = cap (above D N x r); below = cap (below D N x r) }

-- a column's two sums under the multipliers, its price, and up − (price + down)
unfoldable pub column_figures : Data → List ℤ → Index → ColumnFigures
column_figures D ms c = record {
  up = cap (priced⁺ D ms c);
  down = cap (priced⁻ D ms c);
  price = cap (price D c);
  short = net_of (cap (priced⁺ D ms c)) (cap 0) (cap (price D c + priced⁻ D ms c));
}

-- an entry and its range
unfoldable pub entry_figures : Data → Index → EntryFigures
entry_figures D (index t y i j s) = record { least = (range_of t D y i j s).least; most = (range_of t D y i j s).most; entry = D.entry t y i j s }
