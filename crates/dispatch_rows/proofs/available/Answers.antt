use mathlib.Core.Path.{◌≡◌, refl, ◌∙◌}
use Prim.Native.Nat.{ℕ, ◌*◌}
use native.Mathlib.Nat.{zero-add}
use Rattle.capped.specs.Cap.{cap, plus, Sum}
use Rattle.capped.proofs.Laws.{plus-cap}
use Rattle.model.specs.Data.{read, duration}
use Rattle.model.specs.Families.{available}
use Rattle.energy.proofs.Laws.{season-is, available-energy}
use Rattle.row_sums.specs.Sides.{sides_of}
use Rattle.row_sums.proofs.Laws.{two-sums, plain}
use Rattle.dispatch_rows.proofs.available.Goals as goal

-- a product of three, added to nothing
product3-is : {r s : Sum} {a b d u v w : ℕ} → r ≡ plus s (a * b * d) → s ≡ cap 0 → a ≡ u → b ≡ v → d ≡ w → r ≡ cap (u * v * w)
product3-is {u = u} {v = v} {w = w} e h p q t = e ∙ rw (h, p, q, t, plus-cap, zero-add)

pub returns : goal.returns
unfolding sides_of available
returns c N =
    let D = read c.args.case.now.tables.list.now in
    let n = c.args.case.now.tables.laid_out.counts in
    plain N _ _
    (two-sums _ _
    (product3-is c.add_product3-above.ensures c.zero.ensures c.by_plant_season-rate.ensures.0
    (c.season_hours.ensures.0 ∙ season-is D _ (λ s. duration D s) n refl) c.by_year_plant.ensures.0)
    (c.scale.ensures ∙ rw c.energy_at.ensures (available-energy c.requires.0 (rw c.args.case.now.same_counts n) c.requires.1.0 _ _ c.requires.1.1.0 c.requires.1.1.1)))
