use mathlib.Core.Path.{◌≡◌, refl, sym, ap, ◌∙◌}
use mathlib.Core.Bool.{true, false}
use Prim.Native.Nat.{ℕ, ◌+◌}
use native.Mathlib.Nat.{add-zero}
use native.Mathlib.Omega.{arith}
use lib.Dec.{eqb, ltb}
use borrow.Author.Tests.{lt-ltb, ne_eqb}
use Rattle.capped.specs.Cap.{cap, Sum}
use Rattle.row_sums.specs.Sides.{sides_of}
use Rattle.row_sums.proofs.Laws.{product_is, plus-is, two-sums, plain}
use Rattle.fleet_rows.proofs.stock.Goals as goal

-- a part of the document's sum is 0 here
plus-nothing : {s : Sum} (u : ℕ) → s ≡ cap u → s ≡ cap (u + 0)
plus-nothing u e = e ∙ ap cap (sym (add-zero u))

pub returns : goal.returns
unfolding sides_of
returns c =
    let y = c.args.y in
    let e : eqb y 0 ≡ false = ne_eqb y 0 c.if-y-eq0.false in
    let l : ltb 0 y ≡ true = lt-ltb 0 y (omega (arith, c.if-y-eq0.false)) in
    rw (← c.is_existing.ensures, c.if-not-is_existing.false, e, l)
    (plain _ _ _
    (two-sums _ _
    (plus-is _ c.add_product-2.ensures (product_is c.product-own.ensures refl c.by_year_plant.ensures.0) refl c.by_year_plant-2.ensures.0)
    (plus-nothing _ (c.earlier-before.ensures ∙ rw l))))
