-- Rows, columns, entries, plants and figures in words, as bytes. A row, a column and an entry have the number that an answer gives; their indices, and a plant, are counted from 1.
use Rattle.std.specs.Prelude.{Bool, cond, List, ◌++◌, ℕ, ◌-◌, eqb, ltb, ℤ, pos, get_or, Some, None, Result, Ok, Err}
use Prim.Native.String.{String}
use Rattle.capped.specs.Cap.{Sum}
use Rattle.compared.specs.declared.NoBalance.{NoBalance}
use Rattle.compared.specs.declared.NoBalance.TheVariants.{BelowZero, Unsure}
use Rattle.sums.specs.Index.{Index, index}
use Rattle.model.specs.declared.Counts.{Counts}
use Rattle.model.specs.Data.{Data, table_boxes, most_counts}
use Rattle.model.specs.Columns.{column_sets, column_boxes}
use Rattle.model.specs.Families.{family_of, family_in, row_boxes, equal}
use Rattle.model.specs.Tests.{most_scale}
use Rattle.tables.specs.Layout.{table_sets}
use Rattle.duals.specs.declared.Multiplier.{Multiplier}
use Rattle.duals.specs.Multipliers.{multiplier_of}
use Rattle.texts.specs.Claims.{bytes}
use Rattle.writer.specs.Decimal.{decimal}
use Rattle.writer.specs.Names.{name_at}
use Rattle.places.specs.Numbers.{member_at}
use Rattle.row_sums.specs.declared.Sides.{Sides}
use Rattle.figures.specs.declared.ColumnFigures.{ColumnFigures}
use Rattle.figures.specs.declared.EntryFigures.{EntryFigures}
use Rattle.figures.specs.Figures.{row_figures, column_figures, entry_figures}
use Rattle.sentences.specs.Names.{count_names, table_names, column_names, family_names}
use Rattle.index_words.specs.Indices.{counted, place_words}

-- words and a number
abbrev pub with : String → ℕ → List ℕ
with words n = bytes words ++ decimal n

-- Figures

unfoldable pub amount_words : Sum → List ℕ
amount_words (Some v) = decimal v
amount_words None = bytes "more than 2^62 - 1"

-- of an underpriced column the figure is there
unfoldable pub balance_words : Result ℕ NoBalance → List ℕ
balance_words (Ok v) = decimal v
balance_words (Err BelowZero) = bytes "nothing"
balance_words (Err Unsure) = bytes "an unknown amount"

-- a signed number, by its sizes above zero and below
unfoldable pub signed_words : Multiplier → List ℕ
signed_words m = cond (ltb 0 m.down) (with "-" m.down) (decimal m.up)

-- a number, and the least and the most that it may be
unfoldable pub range_words : ℕ → ℕ → ℕ → List ℕ
range_words v least most = with ": it is " v ++ (with " and must be from " least ++ with " to " most)

-- how many numbers a list has, and how many it must have
unfoldable pub length_words : List ℕ → ℕ → ℕ → List ℕ
length_words list has must = list ++ (with " has " has ++ (with " numbers and must have " must))

-- Rows

-- a family's equation number in the source; a family that has none there is told by its name alone
unfoldable pub equation_words : ℕ → List ℕ
equation_words n = cond (eqb n 0) (bytes ", ") (with ", equation (" n ++ bytes ") ")

-- a row's number, equation with its name, and indices
unfoldable pub row_words : Counts → ℕ → Index → List ℕ
row_words c n r = with "row " n ++ (equation_words (family_of (family_in r)).equation ++ (name_at family_names (family_in r) ++ place_words c (family_of (family_in r)).set r))

unfoldable pub sums_words : Sides → List ℕ
sums_words f = bytes ": its positive terms come to " ++ (amount_words f.above ++ (bytes ", its negative terms to " ++ amount_words f.below))

unfoldable pub rule_words : Bool → List ℕ
rule_words is_equal = cond is_equal (bytes ", and the two must be equal") (bytes ", and the first must not be less")

unfoldable pub multiplier_rule : Bool → List ℕ
multiplier_rule is_equal = cond is_equal (bytes " and must be from -2^40 to 2^40") (bytes " and must be from 0 to 2^40")

module _ (D : Data) where
  abbrev row : ℕ → Index
  row n = member_at (row_boxes D.counts) n

  unfoldable pub off_scale_words : ℕ → (Index → ℕ) → ℕ → List ℕ
  off_scale_words N x n = row_words D.counts n (row n) ++ (sums_words (row_figures D N x (row n)) ++ bytes ", and neither may be more than 2^62 - 1")

  unfoldable pub broken_words : ℕ → (Index → ℕ) → ℕ → List ℕ
  broken_words N x n = row_words D.counts n (row n) ++ (sums_words (row_figures D N x (row n)) ++ rule_words (equal (row n)))

  unfoldable pub multiplier_words : List ℤ → ℕ → List ℕ
  multiplier_words ms n = row_words D.counts n (row n) ++ (bytes ": it is " ++ (signed_words (multiplier_of (get_or ms n (pos 0))) ++ multiplier_rule (equal (row n))))

-- Columns and entries

-- the table that a column or an entry is in
abbrev pub table_in : Index → ℕ
table_in (index t y i j s) = t

-- a column's number, table and indices
unfoldable pub column_words : Counts → ℕ → Index → List ℕ
column_words c n r = with "column " n ++ (bytes ", " ++ (name_at column_names (table_in r) ++ place_words c (get_or column_sets (table_in r) 0) r))

-- an entry's place in the list, table and indices
unfoldable pub entry_words : Counts → ℕ → Index → List ℕ
entry_words c n r = with "entry " n ++ (bytes " of DATA, " ++ (name_at table_names (table_in r) ++ place_words c (get_or table_sets (table_in r) 0) r))

unfoldable pub priced_words : ColumnFigures → List ℕ
priced_words f =
    bytes ": its terms m*a come to " ++ (amount_words f.up ++ (bytes " above zero and " ++ (amount_words f.down ++ (bytes " below, its price is " ++ amount_words f.price))))

unfoldable pub figure_words : EntryFigures → List ℕ
figure_words f = range_words f.entry f.least f.most

module _ (D : Data) where
  abbrev column : ℕ → Index
  column n = member_at (column_boxes D.counts) n

  -- the seven counts stand before the tables
  abbrev entry : ℕ → Index
  entry n = member_at (table_boxes D.counts) (n - 7)

  unfoldable pub column_off_scale_words : List ℤ → ℕ → List ℕ
  column_off_scale_words ms n = column_words D.counts n (column n) ++ (priced_words (column_figures D ms (column n)) ++ bytes ", and neither sum of terms may be more than 2^62 - 1")

  unfoldable pub underpriced_words : List ℤ → ℕ → List ℕ
  underpriced_words ms n =
      column_words D.counts n (column n)
      ++ (priced_words (column_figures D ms (column n)) ++ (bytes ", so it is underpriced by " ++ balance_words (column_figures D ms (column n)).short))

  unfoldable pub out_of_range_words : ℕ → List ℕ
  out_of_range_words n = entry_words D.counts n (entry n) ++ figure_words (entry_figures D (entry n))

-- a battery with VRE set
unfoldable pub storage_words : ℕ → List ℕ
storage_words g = counted "plant " g ++ bytes " is a battery and has VRE set"

-- a count out of range
unfoldable pub shape_words : List ℕ → ℕ → List ℕ
shape_words l i = with "entry " i ++ (bytes " of DATA, the number of " ++ (name_at count_names i ++ range_words (get_or l i 0) 1 (get_or most_counts i 0)))

-- N out of range
unfoldable pub scale_words : ℕ → List ℕ
scale_words N = bytes "N" ++ range_words N 1 most_scale
