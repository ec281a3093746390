-- The walk over all rows: the families' index sets. Assumes nothing.
use Rattle.model.specs.Calls.{outcome}
use mathlib.Core.Path.{◌≡◌, sym, ap, ◌∙◌}
use mathlib.Core.Bool.{false}
use Prim.Native.Nat.{ℕ, ◌*◌, ◌≤◌, ◌<◌}
use lib.ListN.{length}
use Rattle.sums.specs.declared.Box.{Box}
use Rattle.sums.specs.Span.{Fault, first}
use Rattle.sums.specs.Index.{Index, box, box_of, members}
use Rattle.model.specs.declared.Counts.{Counts}
use Rattle.model.specs.declared.Family.{Family}
use Rattle.model.specs.declared.Refusal.{Refusal}
use Rattle.model.specs.Counts.{sets}
use Rattle.model.specs.Data.{Data}
use Rattle.model.specs.Families.{family, families, family_of, row_boxes, family_count}
use Rattle.model.specs.Tests.{row_fault, rows_fault}
use Rattle.tables.specs.Layout.{Inside}
use Rattle.tables.proofs.Laws.{get_or-map-in}

-- The families' index sets

-- the box that the code has
module _ (c : Counts) {k : ℕ} {f : Family} {b : Box} (l : k < family_count) (e : f ≡ family_of k) (h : b ≡ box_of (sets c) f.set) where
  set_is : b ≡ box_of (sets c) (family_of k).set
  set_is = h ∙ ap (λ (g : Family). box_of (sets c) g.set) e

  pub box-is : b ≡ box_of (row_boxes c) k
  unfolding family_of row_boxes
  box-is = set_is ∙ sym (get_or-map-in (λ (g : Family). box_of (sets c) g.set) families (family 0 0 false) (box 0 0 0 0) k l)

  pub inside_is : {y i j s : ℕ} → y < b.years → i < b.firsts → j < b.seconds → s < b.slices → Inside c (family_of k).set y i j s
  inside_is hy hi hj hs = record { year = rw (← set_is) hy; «first» = rw (← set_is) hi; second = rw (← set_is) hj; slice = rw (← set_is) hs }

-- as many families as the walk counts
pub family-below : (c : Counts) {k : ℕ} → k < family_count → k < length (row_boxes c)
unfolding row_boxes
family-below c l = l

pub families-end : (c : Counts) {k : ℕ} → family_count ≤ k → length (row_boxes c) ≤ k
unfolding row_boxes
families-end c l = l

pub rows_fit : (c : Counts) {n : ℕ} → n ≤ 983040 * length (row_boxes c) → n ≤ 983040 * family_count
unfolding row_boxes
rows_fit c l = l

-- the walk's answer
pub answered : (D : Data) (N : ℕ) (x : Index → ℕ) {c : Counts} {f : Fault Refusal} → D.counts ≡ c → first (members (row_boxes c)) (row_fault D N x) ≡ f
    → outcome f ≡ outcome (rows_fault D N x)
unfolding rows_fault
answered D N x e h = ap outcome (sym h ∙ ap (λ (c : Counts). first (members (row_boxes c)) (row_fault D N x)) (sym e))
