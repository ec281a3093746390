-- The walk over all columns: the index sets of the kinds of column. Assumes nothing.
use Rattle.model.specs.Calls.{outcome}
use mathlib.Core.Path.{◌≡◌, sym, ap, ◌∙◌}
use mathlib.Core.List.{List}
use Prim.Native.Nat.{ℕ, ◌*◌, ◌≤◌, ◌<◌}
use lib.IntN.{ℤ}
use lib.ListN.{length, get_or}
use Rattle.sums.specs.declared.Box.{Box}
use Rattle.sums.specs.Span.{Fault, first}
use Rattle.sums.specs.Index.{index, box_of, members, Member}
use Rattle.model.specs.declared.Counts.{Counts}
use Rattle.model.specs.declared.Refusal.{Refusal}
use Rattle.model.specs.Counts.{sets}
use Rattle.model.specs.Data.{Data}
use Rattle.model.specs.Columns.{column_sets, column_boxes, column_kind_count}
use Rattle.model.specs.Tests.{column_fault, columns_fault}
use Rattle.tables.proofs.Laws.{box-at}

-- as many kinds of column as the walk counts
pub table_below : (c : Counts) {k : ℕ} → k < column_kind_count → k < length (column_boxes c)
unfolding column_boxes
table_below c l = l

pub tables_end : (c : Counts) {k : ℕ} → column_kind_count ≤ k → length (column_boxes c) ≤ k
unfolding column_boxes
tables_end c l = l

pub columns-fit : (c : Counts) {n : ℕ} → n ≤ 983040 * length (column_boxes c) → n ≤ 983040 * column_kind_count
unfolding column_boxes
columns-fit c l = l

-- the box that the code has
module _ (c : Counts) {k : ℕ} {b : Box} (l : k < column_kind_count) (e : b ≡ box_of (sets c) (get_or column_sets k 0)) where
  pub box-is : b ≡ box_of (column_boxes c) k
  unfolding column_boxes
  box-is = e ∙ sym (box-at c column_sets k l)

  pub column-member : {y i j s : ℕ} → y < b.years → i < b.firsts → j < b.seconds → s < b.slices → Member (column_boxes c) (index k y i j s)
  column-member hy hi hj hs = (table_below c l, rw (← box-is) hy, rw (← box-is) hi, rw (← box-is) hj, rw (← box-is) hs)

-- the walk's answer
pub answered : (D : Data) (ms : List ℤ) {c : Counts} {f : Fault Refusal} → D.counts ≡ c → first (members (column_boxes c)) (column_fault D ms) ≡ f
    → outcome f ≡ outcome (columns_fault D ms)
unfolding columns_fault
answered D ms e h = ap outcome (sym h ∙ ap (λ (c : Counts). first (members (column_boxes c)) (column_fault D ms)) (sym e))
