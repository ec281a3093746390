-- The rows are those that documents 01 and 02 print.
use mathlib.Core.Path.{refl}
use Prim.Native.Nat.{ℕ}
use native.Mathlib.Omega.{arith}
use Rattle.sums.specs.Index.{Index, Member}
use Rattle.sums.specs.Linear.{value}
use Rattle.sums.proofs.Tests.{on-zero}
use Rattle.sums.proofs.Linears.{spread}
use Rattle.model.specs.Data.{Data}
use Rattle.model.specs.Columns.{column_boxes}
use Rattle.model.specs.Families.{equation, equal, family_in, family_of, row_boxes, row}
use Rattle.model.specs.Printed.{Reads, Printed}
use Rattle.model.proofs.Within.{inside}

module _ (D : Data) (x : Index → ℕ) where
  -- a row's sums over all columns are the values of its two sides
  reads : (r : Index) → Member (row_boxes D.counts) r
      → Reads D x r (family_of (family_in r)).equation (equal r) (value (equation D r).positive x) (value (equation D r).negative x) (equation D r).plus (equation D r).minus
  reads r m = record {
    numbered = refl;
    equality = refl;
    positive = spread (column_boxes D.counts) x (equation D r).positive (inside D r m).0;
    negative = spread (column_boxes D.counts) x (equation D r).negative (inside D r m).1;
    adds = refl;
    takes = refl;
  }

  pub printed : Printed D x
  unfolding equation family_of row_boxes
  printed = record {
    family1 = λ y z s hy hz hs. reads (row 1 y z 0 s) (omega arith, hy, hz, omega arith, hs);
    family2 = λ y z w s hy hz hw hs. reads (row 2 y z w s) (omega arith, hy, hz, hw, hs);
    family3 = λ y z s hy hz hs. reads (row 3 y z 0 s) (omega arith, hy, hz, omega arith, hs);
    family4 = λ y z hy hz. reads (row 4 y z 0 0) (omega arith, hy, hz, omega arith, omega arith);
    family5 = λ y g s hy hg hs. reads (row 5 y g 0 s) (omega arith, hy, hg, omega arith, hs);
    family6 = λ y g s hy hg hs. reads (row 6 y g 0 s) (omega arith, hy, hg, omega arith, hs);
    family7 = λ y g s hy hg hs. simp on-zero at (reads (row 7 y g 0 s) (omega arith, hy, hg, omega arith, hs));
    family8 = λ y g s hy hg hs. simp on-zero at (reads (row 8 y g 0 s) (omega arith, hy, hg, omega arith, hs));
    family9 = λ y g s hy hg hs. simp on-zero at (reads (row 9 y g 0 s) (omega arith, hy, hg, omega arith, hs));
    family10 = λ y g q hy hg hq. reads (row 10 y g 0 q) (omega arith, hy, hg, omega arith, hq);
    family11 = λ y g s hy hg hs. simp on-zero at (reads (row 11 y g 0 s) (omega arith, hy, hg, omega arith, hs));
    family12 = λ y g hy hg. reads (row 12 y g 0 0) (omega arith, hy, hg, omega arith, omega arith);
    family13 = λ y g hy hg. simp on-zero at (reads (row 13 y g 0 0) (omega arith, hy, hg, omega arith, omega arith));
    family14 = λ y g hy hg. reads (row 14 y g 0 0) (omega arith, hy, hg, omega arith, omega arith);
    family15 = λ g hg. simp on-zero at (reads (row 15 0 g 0 0) (omega arith, omega arith, hg, omega arith, omega arith));
    family16 = λ y g hy hg. simp on-zero at (reads (row 16 y g 0 0) (omega arith, hy, hg, omega arith, omega arith));
    family17 = λ y z f hy hz hf. reads (row 17 y z f 0) (omega arith, hy, hz, hf, omega arith);
    family18 = reads (row 18 0 0 0 0) (omega arith, omega arith, omega arith, omega arith, omega arith);
    family19 = λ y z hy hz. reads (row 19 y z 0 0) (omega arith, hy, hz, omega arith, omega arith);
    family20 = λ y hy. reads (row 20 y 0 0 0) (omega arith, hy, omega arith, omega arith, omega arith);
    family21 = λ y g s hy hg hs. simp on-zero at (reads (row 21 y g 0 s) (omega arith, hy, hg, omega arith, hs));
    family22 = λ y g s hy hg hs. reads (row 22 y g 0 s) (omega arith, hy, hg, omega arith, hs);
    family23 = λ y g s hy hg hs. simp on-zero at (reads (row 23 y g 0 s) (omega arith, hy, hg, omega arith, hs));
    family24 = λ y g s hy hg hs. simp on-zero at (reads (row 24 y g 0 s) (omega arith, hy, hg, omega arith, hs));
    family25 = λ y g s hy hg hs. reads (row 25 y g 0 s) (omega arith, hy, hg, omega arith, hs);
    family26 = λ y z w hy hz hw. reads (row 26 y z w 0) (omega arith, hy, hz, hw, omega arith);
    family27 = λ z w hz hw. reads (row 27 0 z w 0) (omega arith, omega arith, hz, hw, omega arith);
    family28 = λ y z w hy hz hw. simp on-zero at (reads (row 28 y z w 0) (omega arith, hy, hz, hw, omega arith));
  }
