-- The verdict on a row, as the code finds it and as the document says it. Assumes nothing.
use Rattle.model.specs.Calls.{outcome}
use mathlib.Core.Path.{◌≡◌, refl}
use mathlib.Core.Bool.{Bool, true, false, ◌&&◌}
use mathlib.Core.Logic.{⊎_elim}
use Prim.Native.Nat.{ℕ, ◌≤◌, ◌<◌}
use native.Mathlib.Nat.{eq-or-lt_of_le}
use native.Mathlib.Omega.{arith}
use lib.Dec.{leb}
use borrow.Author.Tests.{eq-eqb, ne_eqb, le-ltb, lt-ltb, le-leb, lt-leb}
use Rattle.capped.specs.Cap.{limit, cap}
use Rattle.compared.specs.Compared.{order}
use Rattle.capped.proofs.Laws.{le-or-lt}
use Rattle.compared.proofs.Laws.{over-cap, lt_order, eq-order, gt-order}
use Rattle.sums.specs.Span.{or_else}
use Rattle.sums.specs.Index.{Index}
use Rattle.model.specs.declared.Refusal.TheVariants.{RowOffScale, Broken}
use Rattle.model.specs.Data.{Data}
use Rattle.model.specs.Families.{equal, row_number}
use Rattle.model.specs.Tests.{above, below, constant⁺, constant⁻, unless, holds, row_fault}
use Rattle.row_sums.specs.declared.Sides.{Sides}
use Rattle.row_sums.specs.Sides.{sides_of}
use Rattle.verdicts.specs.Rows.{verdict_of, ordered}

-- two exact sums up to the limit: whether the row holds
judged : (e : Bool) (lo hi row : ℕ) → lo ≤ limit → hi ≤ limit → ordered e (order (cap lo) (cap hi)) row ≡ outcome (unless (holds e lo hi) (Broken row))
unfolding unless
judged true lo hi row l h =
    ⊎_elim
    (λ (k : lo ≤ hi). ⊎_elim (λ (q : lo ≡ hi). rw (q, eq-order hi h, eq-eqb hi hi refl))
    (λ (q : lo < hi). rw (lt_order lo hi q l, ne_eqb lo hi (λ z. omega arith))) (eq-or-lt_of_le k))
    (λ (k : hi < lo). rw (gt-order lo hi k h, ne_eqb lo hi (λ z. omega arith))) (le-or-lt lo hi)
judged false lo hi row l h =
    ⊎_elim
    (λ (k : lo ≤ hi). rw (le-leb lo hi k) (⊎_elim (λ (q : lo ≡ hi). rw (q, eq-order hi h))
    (λ (q : lo < hi). rw (lt_order lo hi q l)) (eq-or-lt_of_le k)))
    (λ (k : hi < lo). rw (gt-order lo hi k h, lt-leb lo hi k)) (le-or-lt lo hi)

two-sums : (e : Bool) (hi lo row : ℕ)
    → verdict_of (record { above = cap hi; below = cap lo }) e row
    ≡ outcome (or_else (unless (leb hi limit && leb lo limit) (RowOffScale row)) (unless (holds e lo hi) (Broken row)))
unfolding verdict_of or_else unless
two-sums e hi lo row =
    ⊎_elim
    (λ (h : hi ≤ limit). ⊎_elim
    (λ (l : lo ≤ limit). rw (over-cap hi, over-cap lo, le-ltb limit hi h, le-ltb limit lo l, le-leb hi limit h, le-leb lo limit l) (judged e lo hi row l h))
    (λ (l : limit < lo). rw (over-cap hi, over-cap lo, le-ltb limit hi h, lt-ltb limit lo l, le-leb hi limit h, lt-leb lo limit l)) (le-or-lt lo limit))
    (λ (h : limit < hi). rw (over-cap hi, lt-ltb limit hi h, lt-leb hi limit h)) (le-or-lt hi limit)

-- a row's verdict is the document's test of it
pub verdict-is : (D : Data) (N : ℕ) (x : Index → ℕ) (r : Index) {v : Sides} {e : Bool} {row : ℕ} → v ≡ sides_of D N x r → e ≡ equal r → row ≡ row_number D r
    → verdict_of v e row ≡ outcome (row_fault D N x r)
unfolding sides_of above below constant⁺ constant⁻ row_fault
verdict-is D N x r a b q = rw (a, b, q) (two-sums (equal r) (above D N x r) (below D N x r) (row_number D r))
