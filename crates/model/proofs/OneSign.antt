-- No column stands in one row with both signs.
use mathlib.Core.Path.{◌≡◌}
use mathlib.Core.Bool.{true, not}
use mathlib.Core.Logic.{◌≢◌}
use Prim.Native.Nat.{ℕ}
use native.Mathlib.Nat.{mod-le}
use native.Mathlib.Omega.{arith}
use lib.Dec.{eqb}
use borrow.Author.Tests.{ltb-true, eqb-false, not-true}
use Rattle.sums.specs.Index.{index}
use Rattle.sums.proofs.Lists.{Alls, at_place, ◌and◌}
use Rattle.sums.proofs.Apart.{Apart, apart}
use Rattle.model.specs.Data.{Data, T}
use Rattle.model.specs.Families.{Equation, empty, equation, equations, row_boxes}
use Rattle.model.specs.Claims.{OneSign}

-- the test of a sum over the other zones
other-zone : (u z : ℕ) → not (eqb u z) ≡ true → u ≢ z
other-zone u z e = eqb-false u z (not-true (eqb u z) e)

module _ (D : Data) where
  -- the k-th family's terms of the two signs are in different columns
  abbrev Separate : ℕ → Equation → Type 0
  Separate k e = Apart e.positive e.negative

  -- mostly they are columns of different kinds, and omega compares the codes
  each-separate : (y i j s : ℕ) → Alls Separate (equations D y i j s)
  unfolding equation
  each-separate y i j s =
      ((omega arith, omega (arith, other-zone)), omega arith)  -- 1: trans into the zone and out of it, from and to other zones
      and omega arith
      and omega arith
      and omega arith
      and omega arith
      and omega arith
      and omega (arith, ltb-true, mod-le s (T D))  -- 7: gen at s and at s − 1, after the first hour
      and omega (arith, ltb-true, mod-le s (T D))  -- 8: gen at s and at s − 1, after the first hour
      and omega arith
      and omega arith
      and omega arith
      and omega (arith, ltb-true)  -- 12: cap of a year and of the year before
      and omega arith
      and omega arith
      and omega arith
      and omega arith
      and omega arith
      and omega arith
      and omega arith
      and omega arith
      and omega (arith, ltb-true, mod-le s (T D))  -- 21: level at s and at s − 1
      and omega arith
      and omega (arith, ltb-true, mod-le s (T D))  -- 23: charge at s and at s − 1
      and omega (arith, ltb-true, mod-le s (T D))  -- 24: charge at s and at s − 1
      and omega arith
      and omega (arith, ltb-true)  -- 26: total of a year and of the year before
      and omega arith
      and omega (arith, ltb-true)  -- 28: total of the two directions, z below z2
      and tt

pub one-sign : OneSign
unfolding equation row_boxes
one-sign D (index k y i j s) c m =
    apart (equation D (index k y i j s)).positive (equation D (index k y i j s)).negative
    (at_place (Separate D) (equations D y i j s) empty (each-separate D y i j s) k m.0) c
