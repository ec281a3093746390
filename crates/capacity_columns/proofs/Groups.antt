-- The groups of rows of the column cap are together the rows that the model names, and so are the two rows of retire. Assumes nothing.
use mathlib.Core.Path.{◌≡◌, refl}
use mathlib.Core.Bool.{Bool, true, false, not, ◌&&◌, ◌||◌}
use Prim.Native.Nat.{ℕ, zero, suc}
use native.Mathlib.Omega.{arith}
use borrow.Author.Tests.{lt-ltb}
use lib.Dec.{eqb, ltb, eqb-suc-zero}
use Rattle.sums.specs.Index.{Index}
use Rattle.sums.specs.Linear.{nothing, ∑, ◌⊕◌, value}
use Rattle.sums.proofs.Sums.{sum-const-zero}
use Rattle.model.specs.declared.Counts.{Counts}
use Rattle.model.specs.Counts.{slices_of}
use Rattle.model.specs.Data.{Data}
use Rattle.model.specs.Standing.{cap_in_slice⁺, cap_in⁺, cap_in⁻}
use Rattle.capacity_columns.specs.Groups.{cap_in_slice⁻, cap_in_season⁺, cap_in_year⁺, cap_in_year⁻}

module _ (D : Data) (y g : ℕ) (m : Index → ℕ) where
  pub cap-together⁺ : {c : Counts} → D.counts ≡ c
      → value (∑ (slices_of c) (cap_in_slice⁺ D y g) ⊕ ∑ c.seasons (cap_in_season⁺ D y g) ⊕ cap_in_year⁺ D y g) m ≡ value (cap_in⁺ D y g) m
  unfolding cap_in_season⁺ cap_in_year⁺ cap_in⁺
  cap-together⁺ e = rw (← e) (omega arith)

  pub cap-together⁻ : {c : Counts} → D.counts ≡ c
      → value (∑ (slices_of c) (cap_in_slice⁻ D y g) ⊕ ∑ c.seasons (λ _. nothing) ⊕ cap_in_year⁻ D y g) m ≡ value (cap_in⁻ D y g) m
  unfolding cap_in_slice⁻ cap_in_year⁻ cap_in⁻
  cap-together⁻ e = rw (← e) (omega (arith, sum-const-zero D.counts.seasons))

-- where a plant does not stand in family 12 with its retirement, it stands in family 14 with it
pub not-later : (existing : Bool) (y : ℕ) → not (existing && ltb 0 y) ≡ (not existing || eqb y 0)
not-later false y = refl
not-later true zero = refl
not-later true (suc y) = rw (lt-ltb 0 (suc y) (omega arith), eqb-suc-zero y)
