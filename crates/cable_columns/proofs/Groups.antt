-- The rows of all slices in which the column total stands, where a line carries nothing. Assumes nothing.
use mathlib.Core.Path.{◌≡◌, refl, sym}
use mathlib.Core.Bool.{not}
use Prim.Native.Nat.{ℕ}
use native.Mathlib.Nat.{zero-mul}
use lib.Dec.{eqb}
use Rattle.sums.specs.Index.{Index}
use Rattle.sums.specs.Linear.{∑, value}
use Rattle.sums.proofs.Sums.{sum-zero}
use Rattle.sums.proofs.Tests.{on-zero}
use Rattle.model.specs.Data.{Data, mw_per_line}
use Rattle.model.specs.Standing.{total_in_slice⁺}

-- a line that carries nothing adds to no slice's rows
pub no_power : (D : Data) (n y z w : ℕ) (m : Index → ℕ) → mw_per_line D z w ≡ 0 → 0 ≡ value (∑ n (total_in_slice⁺ D y z w)) m
unfolding total_in_slice⁺
no_power D n y z w m e = rw e (sym (sum-zero n (λ s _. simp (zero-mul, on-zero (not (eqb z w))) refl)))
