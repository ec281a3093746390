-- Membership of rows and columns by their indices, and the slices of a season.
use Prim.Native.Nat.{ℕ, ◌<◌}
use native.Mathlib.Nat.{mul-le-mul_right, mul_assoc, suc-mul}
use native.Mathlib.Omega.{arith}
use Rattle.sums.specs.Index.{Index, Member}
use Rattle.model.specs.Data.{Data, Z, G, Q, Y, S, P}
use Rattle.model.specs.Columns.{column_boxes, cap, build, retire, gen, reserve, trans, unmet, surplus, spinshort, firmshort, charge, level, built_lines, total_lines}
use Rattle.model.specs.Families.{slice_of}

module _ (D : Data) where
  abbrev pub Column : Index → Type 0
  Column c = Member (column_boxes D.counts) c

  pub in_cap : {y g : ℕ} → y < Y D → g < G D → Column (cap y g)
  unfolding column_boxes
  in_cap hy hg = (omega arith, hy, hg, omega arith, omega arith)

  pub in-build : {y g : ℕ} → y < Y D → g < G D → Column (build y g)
  unfolding column_boxes
  in-build hy hg = (omega arith, hy, hg, omega arith, omega arith)

  pub in-retire : {y g : ℕ} → y < Y D → g < G D → Column (retire y g)
  unfolding column_boxes
  in-retire hy hg = (omega arith, hy, hg, omega arith, omega arith)

  pub in-gen : {y g s : ℕ} → y < Y D → g < G D → s < S D → Column (gen y g s)
  unfolding column_boxes
  in-gen hy hg hs = (omega arith, hy, hg, omega arith, hs)

  pub in-reserve : {y g s : ℕ} → y < Y D → g < G D → s < S D → Column (reserve y g s)
  unfolding column_boxes
  in-reserve hy hg hs = (omega arith, hy, hg, omega arith, hs)

  pub in-trans : {y z w s : ℕ} → y < Y D → z < Z D → w < Z D → s < S D → Column (trans y z w s)
  unfolding column_boxes
  in-trans hy hz hw hs = (omega arith, hy, hz, hw, hs)

  pub in-unmet : {y z s : ℕ} → y < Y D → z < Z D → s < S D → Column (unmet y z s)
  unfolding column_boxes
  in-unmet hy hz hs = (omega arith, hy, hz, omega arith, hs)

  pub in-surplus : {y z s : ℕ} → y < Y D → z < Z D → s < S D → Column (surplus y z s)
  unfolding column_boxes
  in-surplus hy hz hs = (omega arith, hy, hz, omega arith, hs)

  pub in-spinshort : {y z s : ℕ} → y < Y D → z < Z D → s < S D → Column (spinshort y z s)
  unfolding column_boxes
  in-spinshort hy hz hs = (omega arith, hy, hz, omega arith, hs)

  pub in-firmshort : {y z : ℕ} → y < Y D → z < Z D → Column (firmshort y z)
  unfolding column_boxes
  in-firmshort hy hz = (omega arith, hy, hz, omega arith, omega arith)

  pub in-charge : {y g s : ℕ} → y < Y D → g < G D → s < S D → Column (charge y g s)
  unfolding column_boxes
  in-charge hy hg hs = (omega arith, hy, hg, omega arith, hs)

  pub in-level : {y g s : ℕ} → y < Y D → g < G D → s < S D → Column (level y g s)
  unfolding column_boxes
  in-level hy hg hs = (omega arith, hy, hg, omega arith, hs)

  pub in-built : {y z w : ℕ} → y < Y D → z < Z D → w < Z D → Column (built_lines y z w)
  unfolding column_boxes
  in-built hy hz hw = (omega arith, hy, hz, hw, omega arith)

  pub in-total : {y z w : ℕ} → y < Y D → z < Z D → w < Z D → Column (total_lines y z w)
  unfolding column_boxes
  in-total hy hz hw = (omega arith, hy, hz, hw, omega arith)

  -- a season's slices are slices of the year
  pub in-year : (q i : ℕ) → q < Q D → i < P D → slice_of D q i < S D
  in-year q i hq hi = omega (arith, mul-le-mul_right (P D) hq, suc-mul q (P D), mul_assoc (Q D) D.counts.days D.counts.hours)
