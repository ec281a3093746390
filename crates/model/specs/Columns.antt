-- The plan's columns: cap, build, retire [y,g]; gen, reserve [y,g,s]; trans [y,z,z2,s]; unmet, surplus, spinshort [y,z,s]; firmshort [y,z]; charge, level [y,g,s];
-- built, total [y,z,z2].
use Rattle.std.specs.Prelude.{List, [], ◌∷◌, map, ℕ, get_or}
use Rattle.sums.specs.Span.{Span}
use Rattle.sums.specs.declared.Box.{Box}
use Rattle.sums.specs.Index.{Index, index, box_of, members, number}
use Rattle.model.specs.Counts.{Counts, sets, [yzs], [yzzs], [yz], [ygs], [yg], [yzz]}
use Rattle.model.specs.Data.{Data}

-- the code of each table's index set, in order
abbrev pub column_sets : List ℕ
column_sets = [yg] ∷ [yg] ∷ [yg] ∷ [ygs] ∷ [ygs] ∷ [yzzs] ∷ [yzs] ∷ [yzs] ∷ [yzs] ∷ [yz] ∷ [ygs] ∷ [ygs] ∷ [yzz] ∷ [yzz] ∷ []

-- how many kinds of column there are
abbrev pub column_kind_count : ℕ
column_kind_count = 14

-- each table's columns by name
abbrev pub cap : ℕ → ℕ → Index
cap y g = index 0 y g 0 0

abbrev pub build : ℕ → ℕ → Index
build y g = index 1 y g 0 0

abbrev pub retire : ℕ → ℕ → Index
retire y g = index 2 y g 0 0

abbrev pub gen : ℕ → ℕ → ℕ → Index
gen y g s = index 3 y g 0 s

abbrev pub reserve : ℕ → ℕ → ℕ → Index
reserve y g s = index 4 y g 0 s

abbrev pub trans : ℕ → ℕ → ℕ → ℕ → Index
trans y z w s = index 5 y z w s

abbrev pub unmet : ℕ → ℕ → ℕ → Index
unmet y z s = index 6 y z 0 s

abbrev pub surplus : ℕ → ℕ → ℕ → Index
surplus y z s = index 7 y z 0 s

abbrev pub spinshort : ℕ → ℕ → ℕ → Index
spinshort y z s = index 8 y z 0 s

abbrev pub firmshort : ℕ → ℕ → Index
firmshort y z = index 9 y z 0 0

abbrev pub charge : ℕ → ℕ → ℕ → Index  -- Nths of a MW
charge y g s = index 10 y g 0 s

abbrev pub level : ℕ → ℕ → ℕ → Index  -- Nths of a kWh, at the slice's end
level y g s = index 11 y g 0 s

abbrev pub built_lines : ℕ → ℕ → ℕ → Index  -- built from z to z2 in the year, Nths of a line
built_lines y z w = index 12 y z w 0

abbrev pub total_lines : ℕ → ℕ → ℕ → Index  -- built up to the year, Nths of a line
total_lines y z w = index 13 y z w 0

unfoldable pub column_boxes : Counts → List Box
column_boxes c = map (λ k. box_of (sets c) k) column_sets

-- all columns in order
abbrev pub columns : Data → Span Index
columns D = members (column_boxes D.counts)

-- a column's number in the plan
abbrev pub column_number : Data → Index → ℕ
column_number D c = number (column_boxes D.counts) c

-- a plan as a list of numbers: the entry of a column
abbrev pub entries : Data → List ℕ → Index → ℕ
entries D plan c = get_or plan (column_number D c) 0
