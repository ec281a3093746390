-- What the zones' thousandths are at most. Assumes nothing.
use mathlib.Core.Path.{◌≡◌}
use mathlib.Core.List.{List}
use Prim.Native.Nat.{ℕ, ◌≤◌, ◌<◌}
use native.Mathlib.Omega.{arith}
use Rattle.sums.specs.Span.{fine}
use Rattle.model.specs.declared.Counts.{Counts}
use Rattle.model.specs.Data.{read, ee, prm, table_boxes}
use Rattle.model.specs.Tests.{entries_fault}
use Rattle.model.proofs.Sound.{entry-range}
use Rattle.tables.specs.Layout.{TablesAt}

-- Ranges, of data that passed refusal 3

module _ {l tables-at : List ℕ} {c : Counts} {z : ℕ} (n : TablesAt l tables-at c) (e : entries_fault (read l) ≡ fine) (hz : z < c.zones) where
  pub few-ee : {y : ℕ} → y < c.years → ee (read l) y z ≤ 5000
  unfolding table_boxes
  few-ee {y} hy = (entry-range (read l) e 26 y z 0 0 (omega arith, rw n.counts hy, rw n.counts hz, omega arith, omega arith)).1

  pub few-prm : prm (read l) z ≤ 1000
  unfolding table_boxes
  few-prm = (entry-range (read l) e 28 0 z 0 0 (omega arith, omega arith, rw n.counts hz, omega arith, omega arith)).1
