-- What stands where a refusal names a place: the tests before it passed, and its place is one that there is.
use Rattle.std.specs.Prelude.{◌≡◌, List, ℕ, ◌≤◌, ◌<◌, ℤ, length}
use Rattle.sums.specs.Span.{fine, or_else}
use Rattle.sums.specs.Index.{count}
use Rattle.model.specs.Data.{data_length, read, G}
use Rattle.model.specs.Columns.{column_boxes}
use Rattle.model.specs.Families.{row_boxes}
use Rattle.model.specs.Tests.{head_fault, counts_fault, length_fault, data_fault}

-- a row of the plan's tests: data, plan, row
abbrev pub OfRow : List ℕ → List ℕ → ℕ → Type 0
OfRow l plan r = (data_fault l ≡ fine) × ((length plan ≡ count (column_boxes (read l).counts)) × (r < count (row_boxes (read l).counts)))

-- a row that has a multiplier: data, multipliers, row
abbrev pub OfMultiplier : List ℕ → List ℤ → ℕ → Type 0
OfMultiplier l ms r = (data_fault l ≡ fine) × ((length ms ≡ count (row_boxes (read l).counts)) × (r < count (row_boxes (read l).counts)))

-- a column priced by multipliers: data, multipliers, column
abbrev pub OfColumn : List ℕ → List ℤ → ℕ → Type 0
OfColumn l ms c = (data_fault l ≡ fine) × ((length ms ≡ count (row_boxes (read l).counts)) × (c < count (column_boxes (read l).counts)))

-- refusals 1 and 2 do not come
abbrev pub HeadFine : List ℕ → Type 0
HeadFine l = or_else (head_fault l) (or_else (counts_fault l) (length_fault l)) ≡ fine

-- an entry after the seven counts
abbrev pub OfEntry : List ℕ → ℕ → Type 0
OfEntry l e = HeadFine l × ((7 ≤ e) × (e < data_length (read l).counts))

-- a plant
abbrev pub OfPlant : List ℕ → ℕ → Type 0
OfPlant l g = HeadFine l × (g < G (read l))

-- a count
abbrev pub OfCount : List ℕ → ℕ → Type 0
OfCount l i = (7 ≤ length l) × (i < 7)
