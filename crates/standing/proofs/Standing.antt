-- The equations read by column: over all rows, a column has no coefficients but those that `standing⁺` and `standing⁻` name.
use mathlib.Core.Path.{◌≡◌, refl, ◌∙◌}
use Prim.Native.Nat.{ℕ, ◌+◌, ◌*◌}
use native.Mathlib.Nat.{zero-mod, mul-mod_left}
use native.Mathlib.Omega.{arith}
use borrow.Author.Count.{below_none}
use Rattle.sums.specs.Index.{Index, Member}
use Rattle.sums.specs.Linear.{◌·◌, when, value, coefficient}
use Rattle.sums.proofs.Sums.{sum-add}
use Rattle.sums.proofs.Tests.{eqb_comm, on-add}
use Rattle.sums.proofs.Collapse.{collapse, collapse-next, collapse-parts, sum-at, sum-next, sum-next-inside, part-bounds}
use Rattle.sums.proofs.ByKind.{by_kind, total-by-kind, ◌▹◌, each-kind, only_zero}
use Rattle.model.specs.Data.{Data, Q, Y, P, is_battery, after_first_hour}
use Rattle.model.specs.Columns.{column_boxes}
use Rattle.model.specs.Families.{rows, row_boxes, row, equation}
use Rattle.model.specs.Standing.{Placed, Stands, ramps_in, standing⁺, standing⁻}

-- the statement for one column, family by family; whoever opens it opens every family's equation
StandsAt : Data → Index → Type 0
unfolding row_boxes equation standing⁺ standing⁻
StandsAt D c =
    (m : Index → ℕ)
    → (by_kind (rows D) (λ r. coefficient (equation D r).positive c * m r) ≡ value (standing⁺ D c) m)
    × (by_kind (rows D) (λ r. coefficient (equation D r).negative c * m r) ≡ value (standing⁻ D c) m)

-- a battery's two ramps, one by one
ramps-apart : (D : Data) (g fall rise y s : ℕ) (m : Index → ℕ)
    → value (when (is_battery D g) (ramps_in D fall rise y g s)) m
    ≡ value (when (is_battery D g) (when (after_first_hour D s) (1000 · row fall y g 0 s))) m
    + value (when (is_battery D g) (when (after_first_hour D (s + 1)) (1000 · row rise y g 0 (s + 1)))) m
ramps-apart D g fall rise y s m = on-add (is_battery D g) _ _

-- A line for each kind of column. `simp` drops the families that a column does not stand in, and collapses the sums of the others
-- at the column's own indices and at those that follow from them: a plant's zone and fuel, the year after, the slice after, a slice's season.
-- Slices 0 and S are a day's first hour, so no ramp row takes the slice before them.
module _ (D : Data) (p : Placed D) where
  column-stands : (c : Index) → Member (column_boxes D.counts) c → StandsAt D c
  unfolding StandsAt column_boxes
  column-stands =
      each-kind (column_boxes D.counts) (StandsAt D) (
      below_none _
      ▹ (λ y g j s hy hg hj hs m. simp (collapse-next, sum-add, only_zero hj, only_zero hs, sum-at hy, sum-at hg, sum-at (p.zoned g hg), sum-next (Y D) y) (omega arith, refl))  -- cap
      ▹ (λ y g j s hy hg hj hs m. simp (collapse, only_zero hj, only_zero hs, sum-at hy, sum-at hg) (refl, refl))  -- build
      ▹ (λ y g j s hy hg hj hs m. simp (collapse, only_zero hj, only_zero hs, sum-at hy, sum-at hg) (refl, refl))  -- retire
      ▹ (λ y g j s hy hg hj hs m.  -- gen
      let (hq, hp) = part-bounds (Q D) (P D) s (omega arith) in
      let hz = p.zoned g hg in
      let hf = p.fuelled g hg in
      simp (collapse-next, collapse-parts, zero-mod, mul-mod_left, only_zero hj, sum-at hy, sum-at hg, sum-at hz, sum-at hf, sum-at hs, sum-next-inside hs, sum-at hq, sum-at hp) (omega arith, omega arith))
      ▹ (λ y g j s hy hg hj hs m. simp (collapse, only_zero hj, sum-at hy, sum-at hg, sum-at (p.zoned g hg), sum-at hs) (refl, refl))  -- reserve
      ▹ (λ y z w s hy hz hw hs m. simp (collapse, sum-at hy, sum-at hz, sum-at hw, sum-at hs, eqb_comm w z) (refl, refl))  -- trans
      ▹ (λ y z j s hy hz hj hs m. simp (collapse, only_zero hj, sum-at hy, sum-at hz, sum-at hs) (refl, refl))  -- unmet
      ▹ (λ y z j s hy hz hj hs m. simp (collapse, only_zero hj, sum-at hy, sum-at hz, sum-at hs) (refl, refl))  -- surplus
      ▹ (λ y z j s hy hz hj hs m. simp (collapse, only_zero hj, sum-at hy, sum-at hz, sum-at hs) (refl, refl))  -- spinshort
      ▹ (λ y z j s hy hz hj hs m. simp (collapse, only_zero hj, only_zero hs, sum-at hy, sum-at hz) (refl, refl))  -- firmshort
      ▹ (λ y g j s hy hg hj hs m. simp (collapse-next, zero-mod, mul-mod_left, only_zero hj, sum-at hy, sum-at hg, sum-at (p.zoned g hg), sum-at hs, sum-next-inside hs) (omega (arith, ramps-apart D g 24 23 y s m), omega (arith, ramps-apart D g 23 24 y s m)))  -- charge
      ▹ (λ y g j s hy hg hj hs m. simp (collapse-next, zero-mod, mul-mod_left, only_zero hj, sum-at hy, sum-at hg, sum-at hs, sum-next-inside hs) (refl, refl))  -- level
      ▹ (λ y z w s hy hz hw hs m. simp (collapse, only_zero hs, sum-at hy, sum-at hz, sum-at hw) (refl, refl))  -- built
      ▹ (λ y z w s hy hz hw hs m. simp (collapse-next, sum-add, only_zero hs, sum-at hy, sum-at hz, sum-at hw, sum-next (Y D) y) (omega arith, refl)))  -- total

pub stands : (D : Data) → Stands D
unfolding StandsAt
stands D p c l m =
    let e = column-stands D p c l m in
    (total-by-kind (rows D) m (λ r. coefficient (equation D r).positive c) ∙ e.0, total-by-kind (rows D) m (λ r. coefficient (equation D r).negative c) ∙ e.1)
