-- A column's sums over the rows that it stands in are those over all rows. Assumes nothing.
use mathlib.Core.Path.{◌≡◌, sym, ap₂, ◌∙◌}
use mathlib.Core.List.{List}
use Prim.Native.Nat.{ℕ, ◌+◌, ◌*◌}
use native.Mathlib.Omega.{arith}
use lib.IntN.{ℤ}
use Rattle.sums.specs.Index.{Index, Member}
use Rattle.sums.specs.Linear.{coefficient}
use Rattle.sums.proofs.Spans.{total-add}
use Rattle.model.specs.Data.{Data}
use Rattle.model.specs.Columns.{column_boxes}
use Rattle.model.specs.Families.{rows, equation}
use Rattle.model.specs.Standing.{Placed, standing⁺, standing⁻}
use Rattle.model.specs.Tests.{multiplier, m⁺, m⁻, priced⁺, priced⁻}
use Rattle.standing.proofs.Standing.{stands}
use Rattle.duals.specs.Multipliers.{multiplier_of}
use Rattle.column_terms.specs.declared.Pair.{Pair}
use Rattle.column_terms.specs.Pairs.{row_multiplier, pair_of, priced_pair}
use Rattle.column_terms.proofs.Laws.{pair_is}

-- the sums over all rows are those over the rows that the column stands in
pub column-priced : (D : Data) (ms : List ℤ) (x : Index) {r : Pair} → Placed D → Member (column_boxes D.counts) x
    → r ≡ pair_of D.counts ms (standing⁺ D x) (standing⁻ D x) → r ≡ priced_pair D ms x
unfolding pair_of priced_pair row_multiplier multiplier_of priced⁺ priced⁻ multiplier
column-priced D ms x p l e =
    let up : Index → ℕ = m⁺ D ms in
    let down : Index → ℕ = m⁻ D ms in
    let u = stands D p x l up in
    let d = stands D p x l down in
    let a : Index → ℕ = λ r. coefficient (equation D r).positive x in
    let b : Index → ℕ = λ r. coefficient (equation D r).negative x in
    e ∙ sym (pair_is (total-add (rows D) (λ r. up r * a r) (λ r. down r * b r) ∙ ap₂ (λ (v w : ℕ). v + w) u.0 d.1)
    (omega (arith, total-add (rows D) (λ r. up r * b r) (λ r. down r * a r), u.1, d.0)))
