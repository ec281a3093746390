-- The tests of documents 01 and 02, each as the refusal that it gives, or none.
use Rattle.std.specs.Prelude.{Bool, true, false, not, ◌&&◌, ◌||◌, List, [], ◌∷◌, ℕ, zero, suc, ◌+◌, ◌*◌, ◌-◌, ◌^◌, eqb, leb, ltb, ℤ, pos, negsuc, length, get_or}
use Rattle.capped.specs.Cap.{limit}
use Rattle.sums.specs.Sum.{on}
use Rattle.sums.specs.Span.{Fault, fine, fault, or_else, upto, total, first}
use Rattle.sums.specs.Index.{Index, index, count, members}
use Rattle.sums.specs.Linear.{value, coefficient}
use Rattle.model.specs.declared.Refusal.{Refusal}
use Rattle.model.specs.declared.Refusal.TheVariants.{Shape, DataLength, Entry, Scale, PlanLength, RowOffScale, Broken, CostOffScale, MultiplierCount, Multiplier, ColumnOffScale, Underpriced, GapOffScale, Board, Storage}
use Rattle.model.specs.Data.{Data, Range, within, Table, tables, table_boxes, counts_of, most_counts, place_of, data_length, read, Y, G, S, is_battery, is_vre, ◌to◌, all}
use Rattle.model.specs.Columns.{columns, column_number, column_boxes, entries}
use Rattle.model.specs.Families.{Equation, equation, equal, family_in, rows, row_number, row_boxes}
use Rattle.model.specs.Prices.{price, cost}

-- the largest sum that passes is `limit`, 2^62 − 1, of the capped sums; the largest scale; the largest multiplier
abbrev pub most_scale : ℕ
most_scale = 1000

abbrev pub most_multiplier : ℕ
most_multiplier = 2 ^ 40

-- a refusal where a test fails
unfoldable pub unless : Bool → Refusal → Fault Refusal
unless true r = fine
unless false r = fault r

-- The data (1, 2, 3, 16)

-- 2: under 7
unfoldable pub head_fault : List ℕ → Fault Refusal
head_fault l = unless (leb (length most_counts) (length l)) (DataLength (length most_counts))

-- 1: a count is out of range
unfoldable pub count_fault : List ℕ → ℕ → Fault Refusal
count_fault l i = unless (within (1 to get_or most_counts i 0) (get_or l i 0)) (Shape i)

unfoldable pub counts_fault : List ℕ → Fault Refusal
counts_fault l = upto (length most_counts) (count_fault l)

-- 2: not the length the counts give
unfoldable pub length_fault : List ℕ → Fault Refusal
length_fault l = unless (eqb (length l) (data_length (counts_of l))) (DataLength (data_length (counts_of l)))

-- 3: an entry is out of range
unfoldable pub entry_fault : Data → Index → Fault Refusal
entry_fault D (index t y i j s) =
    unless (within ((get_or tables t (all 0 (0 to 0))).range D y i j s) (D.entry t y i j s)) (Entry (place_of D.counts (index t y i j s)))

unfoldable pub entries_fault : Data → Fault Refusal
entries_fault D = first (members (table_boxes D.counts)) (entry_fault D)

-- 16: a battery has VRE set; the lowest such plant
unfoldable pub plant_storage_fault : Data → ℕ → Fault Refusal
plant_storage_fault D g = unless (not (is_battery D g && is_vre D g)) (Storage g)

unfoldable pub storage_fault : Data → Fault Refusal
storage_fault D = upto (G D) (plant_storage_fault D)

unfoldable pub data_fault : List ℕ → Fault Refusal
data_fault l = or_else (head_fault l) (or_else (counts_fault l) (or_else (length_fault l) (or_else (entries_fault (read l)) (storage_fault (read l)))))

-- The plan (4 to 8)

-- 4
unfoldable pub scale_fault : ℕ → Fault Refusal
scale_fault N = unless (within (1 to most_scale) N) Scale

-- 5
unfoldable pub plan_length_fault : Data → List ℕ → Fault Refusal
plan_length_fault D plan = unless (eqb (length plan) (count (column_boxes D.counts))) (PlanLength (count (column_boxes D.counts)))

module _ (D : Data) where
  -- a row's constant: like terms brought together, one number k = constant⁺ − constant⁻ of which one part is 0
  unfoldable pub constant⁺ : Index → ℕ
  constant⁺ r = (equation D r).plus - (equation D r).minus

  unfoldable pub constant⁻ : Index → ℕ
  constant⁻ r = (equation D r).minus - (equation D r).plus

  -- a row's positive and negative terms at scale N, summed apart: Σ a·entry + N·k is their difference
  unfoldable pub above : ℕ → (Index → ℕ) → Index → ℕ
  above N x r = value (equation D r).positive x + N * constant⁺ r

  unfoldable pub below : ℕ → (Index → ℕ) → Index → ℕ
  below N x r = value (equation D r).negative x + N * constant⁻ r

-- the value is 0 or more, in an equality 0
abbrev pub holds : Bool → ℕ → ℕ → Bool
holds true lo hi = eqb lo hi
holds false lo hi = leb lo hi

-- 6, 7: neither sum of a row may exceed the limit, and it must hold
unfoldable pub row_fault : Data → ℕ → (Index → ℕ) → Index → Fault Refusal
row_fault D N x r =
    or_else (unless (leb (above D N x r) limit && leb (below D N x r) limit) (RowOffScale (row_number D r)))
    (unless (holds (equal r) (below D N x r) (above D N x r)) (Broken (row_number D r)))

unfoldable pub rows_fault : Data → ℕ → (Index → ℕ) → Fault Refusal
rows_fault D N x = first (rows D) (row_fault D N x)

-- 8
unfoldable pub cost_fault : Data → (Index → ℕ) → Fault Refusal
cost_fault D x = unless (leb (cost D x) limit) CostOffScale

unfoldable pub plan_fault : Data → ℕ → List ℕ → Fault Refusal
plan_fault D N plan =
    or_else (scale_fault N) (or_else (plan_length_fault D plan) (or_else (rows_fault D N (entries D plan)) (cost_fault D (entries D plan))))

-- The multipliers (9 to 13)

-- the size of a number above zero, and of one below
abbrev pub part⁺ : ℤ → ℕ
part⁺ (pos n) = n
part⁺ (negsuc n) = 0

abbrev pub part⁻ : ℤ → ℕ
part⁻ (pos n) = 0
part⁻ (negsuc n) = suc n

-- 9
unfoldable pub multiplier_count_fault : Data → List ℤ → Fault Refusal
multiplier_count_fault D ms = unless (eqb (length ms) (count (row_boxes D.counts))) (MultiplierCount (count (row_boxes D.counts)))

module _ (D : Data) (ms : List ℤ) where
  -- a row's multiplier
  unfoldable pub multiplier : Index → ℤ
  multiplier r = get_or ms (row_number D r) (pos 0)

  abbrev pub m⁺ : Index → ℕ
  m⁺ r = part⁺ (multiplier r)

  abbrev pub m⁻ : Index → ℕ
  m⁻ r = part⁻ (multiplier r)

  -- 10: −2^40..2^40 in equalities, 0..2^40 elsewhere
  unfoldable pub multiplier_fault : Index → Fault Refusal
  multiplier_fault r = unless (leb (m⁺ r) most_multiplier && leb (m⁻ r) (on (equal r) most_multiplier)) (Multiplier (row_number D r))

  -- the terms m·a of a column, by sign
  unfoldable pub priced⁺ : Index → ℕ
  priced⁺ c = total (rows D) (λ r. m⁺ r * coefficient (equation D r).positive c + m⁻ r * coefficient (equation D r).negative c)

  unfoldable pub priced⁻ : Index → ℕ
  priced⁻ c = total (rows D) (λ r. m⁺ r * coefficient (equation D r).negative c + m⁻ r * coefficient (equation D r).positive c)

  -- 11, 12: neither sum of a column may exceed the limit, and c ≥ Σ m·a
  unfoldable pub column_fault : Index → Fault Refusal
  column_fault c =
      or_else (unless (leb (priced⁺ c) limit && leb (priced⁻ c) limit) (ColumnOffScale (column_number D c)))
      (unless (leb (priced⁺ c) (price D c + priced⁻ c)) (Underpriced (column_number D c)))

  -- the terms m·k of all rows, by sign
  unfoldable pub constants⁺ : ℕ
  constants⁺ = total (rows D) (λ r. m⁺ r * constant⁺ D r + m⁻ r * constant⁻ D r)

  unfoldable pub constants⁻ : ℕ
  constants⁻ = total (rows D) (λ r. m⁺ r * constant⁻ D r + m⁻ r * constant⁺ D r)

  -- 13: neither sum of N·m·k may exceed the limit
  unfoldable pub gap_fault : ℕ → Fault Refusal
  gap_fault N = unless (leb (N * constants⁺) limit && leb (N * constants⁻) limit) GapOffScale

  -- cost + N·Σ m·k
  unfoldable pub gap : ℕ → ℕ → ℕ
  gap N c = c + N * constants⁺ - N * constants⁻

  unfoldable pub multipliers_fault : Fault Refusal
  multipliers_fault = first (rows D) multiplier_fault

  unfoldable pub columns_fault : Fault Refusal
  columns_fault = first (columns D) column_fault

  unfoldable pub dual_fault : ℕ → Fault Refusal
  dual_fault N = or_else (multiplier_count_fault D ms) (or_else multipliers_fault (or_else columns_fault (gap_fault N)))

-- The board (14): the year is below Y, and G·S places stand from the start place on

unfoldable pub board_fault : Data → ℕ → ℕ → ℕ → Fault Refusal
board_fault D y places start = unless (ltb y (Y D) && leb (G D * S D) (places - start)) Board
