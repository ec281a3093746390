-- Kinds of column that some rows have no term of: lines in (21) and (64).
use mathlib.Core.Path.{◌≡◌, refl}
use mathlib.Core.Bool.{Bool, false}
use Prim.Native.Nat.{ℕ, ◌≤◌}
use native.Mathlib.Omega.{arith}
use lib.Dec.{eqb}
use borrow.Author.Tests.{ne_eqb}
use Rattle.sums.specs.Sum.{sum, on}
use Rattle.sums.specs.Index.{index}
use Rattle.sums.proofs.Sums.{sum-zero}
use Rattle.sums.proofs.Tests.{on-zero}
use Rattle.model.specs.Data.{Data, zone, candidate, G, Y}
use Rattle.model.specs.Families.{equation}
use Rattle.model.specs.Claims.{Uncounted, LinesUncounted}

-- the sums of (21) and (64) over plants and years have no other kind of column
no-term : (n : ℕ) (b : ℕ → Bool) → sum n (λ i. on (b i) 0) ≡ 0
no-term n b = sum-zero n (λ i _. on-zero (b i))

uncounted : (D : Data) (k y z w : ℕ) → 12 ≤ k → Uncounted D (index k y z w 0)
unfolding equation
uncounted D k y z w h =
    let other : eqb 0 k ≡ false = ne_eqb 0 k (omega arith) in
    let short : eqb 9 k ≡ false = ne_eqb 9 k (omega arith) in
    record {
      firm⁺ = λ v u. rw (other, short) (omega (arith, no-term (G D) (λ g. eqb (zone D g) u)));
      firm⁻ = λ _ _. refl;
      capital⁺ = refl;
      capital⁻ = rw other (sum-zero (Y D) (λ v _. no-term (G D) (candidate D)));
    }

pub lines-uncounted : LinesUncounted
lines-uncounted D y z w = (uncounted D 12 y z w (omega arith), uncounted D 13 y z w (omega arith))
