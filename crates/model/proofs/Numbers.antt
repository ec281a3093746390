-- The numbers of rows, columns and data entries have no gaps, and the columns' numbers are those that a reader works out.
use native.Mathlib.Omega.{arith}
use Rattle.sums.specs.Sum.{sum}
use Rattle.sums.proofs.Numbering.{numbered}
use Rattle.model.specs.Counts.{Counts}
use Rattle.model.specs.Data.{Data, table_boxes}
use Rattle.model.specs.Columns.{column_boxes}
use Rattle.model.specs.Families.{row_boxes}
use Rattle.model.specs.Claims.{Numbers, ColumnNumbers}

pub numbers : (c : Counts) → Numbers c
numbers c = record { rows = numbered (row_boxes c); columns = numbered (column_boxes c); entries = numbered (table_boxes c) }

-- the volumes of the tables before, and the place inside the table
pub column-numbers : (D : Data) → ColumnNumbers D
unfolding column_boxes sum
column-numbers D = omega arith
