-- How the calls lay out what they work on: the counts in range, the shape record, the starts of tables and columns, and what a reader of an entry may rely on.
use Rattle.std.specs.Prelude.{◌≡◌, List, map, ℕ, ◌+◌, ◌≤◌, ◌<◌, length, get_or}
use Rattle.sums.specs.declared.Box.{Box}
use Rattle.sums.specs.Sum.{sum}
use Rattle.sums.specs.Index.{Index, box_of, volume, count, number}
use Rattle.model.specs.declared.Counts.{Counts}
use Rattle.model.specs.Counts.{sets}
use Rattle.model.specs.Data.{Table, tables, most_counts, data_length, read}
use Rattle.model.specs.Columns.{column_sets, column_boxes}

-- Counts that passed refusal 1. The fact is asked of who hands over bare counts, and is no field of a struct round them: `Counts` is the record of the
-- definitions, which `read` makes of any list. Tried with a struct (`slices_of`, and `peaks` as its caller): no clause got shorter, and each answer over the
-- data's counts had to be turned by an equation. Who holds Tables, Plan or Multipliers shows the fact with nothing. What reads counts alone (such as
-- `slices_of`, `first_hour`, `energy_place`, `lay_out_multipliers`) is not handed one of these instead: it would ask for a list that it does not read.
pub record Counted (c : Counts) : Type 0 where
  pub some_zones : 1 ≤ c.zones
  pub some_plants : 1 ≤ c.plants
  pub some_fuels : 1 ≤ c.fuels
  pub some_seasons : 1 ≤ c.seasons
  pub some_days : 1 ≤ c.days
  pub some_hours : 1 ≤ c.hours
  pub some_years : 1 ≤ c.years
  pub few_zones : c.zones ≤ 8
  pub few_plants : c.plants ≤ 32
  pub few_fuels : c.fuels ≤ 8
  pub few_seasons : c.seasons ≤ 4
  pub few_days : c.days ≤ 4
  pub few_hours : c.hours ≤ 24
  pub few_years : c.years ≤ 10

-- a box whose members can be numbered in a machine word
pub record Small (b : Box) : Type 0 where
  pub few_years : b.years ≤ 10
  pub few_firsts : b.firsts ≤ 32
  pub few_seconds : b.seconds ≤ 8
  pub few_slices : b.slices ≤ 384

-- the code of each table's index set
abbrev pub table_sets : List ℕ
table_sets = map (λ (t : Table). t.set) tables

-- the starts of the kinds that a list of index sets names, counted from a first place
abbrev pub start_from : Counts → List ℕ → ℕ → ℕ → ℕ
start_from c kinds from k = from + sum k (λ i. volume (box_of (sets c) (get_or kinds i 0)))

-- data that passed refusals 1 and 2, its counts, and the starts of its tables
pub record TablesAt (l tables-at : List ℕ) (c : Counts) : Type 0 where
  pub counts : (read l).counts ≡ c
  pub counted : Counted c
  pub whole : length l ≡ data_length c
  pub starts : (t : ℕ) → t ≤ length tables → get_or tables-at t 0 ≡ start_from c table_sets (length most_counts) t

-- a plan of the right length, and the starts of its tables
pub record ColumnsAt (plan columns-at : List ℕ) (c : Counts) : Type 0 where
  pub whole : length plan ≡ count (column_boxes c)
  pub starts : (k : ℕ) → k ≤ length column_sets → get_or columns-at k 0 ≡ start_from c column_sets 0 k

-- four indices inside the index set of code k. The bounds are asked, here and, as an index below its count, in the crates above (`Member` is the same of a
-- place, `RowAt` of a family's number and four indices): each depends on another parameter's counts, so that no type of an index alone holds it. A struct of a
-- plant's, a zone's or a link's indices would serve the parts of a column; but it takes a type for each, made for one call and taken apart again by each part,
-- to read y, g as the documents have them
pub record Inside (c : Counts) (k y i j s : ℕ) : Type 0 where
  pub year : y < (box_of (sets c) k).years
  pub «first» : i < (box_of (sets c) k).firsts
  pub second : j < (box_of (sets c) k).seconds
  pub slice : s < (box_of (sets c) k).slices

-- entry y, i, j, s of table t can be read, of the data or of the plan by the list of its tables' index sets: the table's set has the code k
pub record EntryAt (kinds : List ℕ) (c : Counts) (t k y i j s : ℕ) : Type 0 where
  pub table : t < length kinds
  pub set : get_or kinds t 0 ≡ k
  pub inside : Inside c k y i j s

-- the plan's entry of a column, by the counts alone; over data with these counts it is `entries`
abbrev pub plan_entry : Counts → List ℕ → Index → ℕ
plan_entry c plan i = get_or plan (number (column_boxes c) i) 0
