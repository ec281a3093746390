-- A row, a column and a data entry: the index set of its kind, its four indices inside that set, and its year.
use mathlib.Core.Path.{◌≡◌}
use mathlib.Core.Bool.{false}
use mathlib.Core.List.{List}
use Prim.Native.Nat.{ℕ, ◌≤◌, ◌<◌}
use native.Mathlib.Omega.{arith}
use lib.ListN.{get_or}
use Rattle.sums.specs.declared.Box.{Box}
use Rattle.sums.specs.Index.{index, box, box_of, Member}
use Rattle.model.specs.declared.Counts.{Counts}
use Rattle.model.specs.declared.Family.{Family}
use Rattle.model.specs.Counts.{sets}
use Rattle.model.specs.Data.{table_boxes, table_count}
use Rattle.model.specs.Columns.{column_sets, column_boxes, column_kind_count}
use Rattle.model.specs.Families.{family, families, family_of, row_boxes, family_count}
use Rattle.tables.specs.Layout.{Counted, Inside, table_sets}
use Rattle.tables.proofs.Laws.{get_or-map-in, at-any, box-at}

pub family-box : (c : Counts) {k : ℕ} → k < family_count → box_of (row_boxes c) k ≡ box_of (sets c) (family_of k).set
unfolding family_of row_boxes
family-box c {k} h = get_or-map-in (λ (f : Family). box_of (sets c) f.set) families (family 0 0 false) (box 0 0 0 0) k h

-- n is the code of the index set of kind k
module _ (c : Counts) (boxes : List Box) (k n : ℕ) {y i j s : ℕ} (e : box_of boxes k ≡ box_of (sets c) n) (m : Member boxes (index k y i j s)) where
  member-inside : Inside c n y i j s
  member-inside = record { year = rw (← e) m.1; «first» = rw (← e) m.2; second = rw (← e) m.3; slice = rw (← e) m.4 }

module _ (c : Counts) {k y i j s : ℕ} where
  pub row_inside : Member (row_boxes c) (index k y i j s) → (k < family_count) × Inside c (family_of k).set y i j s
  unfolding row_boxes
  row_inside m = (m.0, member-inside c (row_boxes c) k (family_of k).set (family-box c m.0) m)

  pub column-inside : Member (column_boxes c) (index k y i j s) → (k < column_kind_count) × Inside c (get_or column_sets k 0) y i j s
  unfolding column_boxes
  column-inside m = (m.0, member-inside c (column_boxes c) k (get_or column_sets k 0) (box-at c column_sets k m.0) m)

  pub entry-inside : Member (table_boxes c) (index k y i j s) → (k < table_count) × Inside c (get_or table_sets k 0) y i j s
  unfolding table_boxes
  entry-inside m = (m.0, member-inside c (table_boxes c) k (get_or table_sets k 0) (box-at c table_sets k m.0) m)

-- an index set has the plan's years, or one
few-years : (c : Counts) → 1 ≤ c.years → (n : ℕ) → (box_of (sets c) n).years ≤ c.years
few-years c h n = at-any (λ b. b.years ≤ c.years) (sets c) (box 0 0 0 0) (omega arith) (omega arith) n

pub year-inside : {c : Counts} {n y i j s : ℕ} → Counted c → Inside c n y i j s → y < c.years
year-inside {c} {n} few h = omega (arith, few-years c few.some_years n, h.year)
