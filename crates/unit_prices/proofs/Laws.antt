-- The price of an hour of gen. Assumes nothing.
use mathlib.Core.Path.{◌≡◌, ◌∙◌}
use Prim.Native.Nat.{ℕ, ◌*◌}
use Rattle.capped.specs.Cap.{cap, plus, Sum}
use Rattle.capped.proofs.Laws.{plus-cap}
use Rattle.model.specs.Data.{Data, gen_cost, tax, emission}
use Rattle.unit_prices.specs.Prices.{hour_price}

pub gen-price : (D : Data) (t y i : ℕ) {s r : Sum} {g w e : ℕ} → t ≡ 3 → g ≡ gen_cost D y i → w ≡ tax D y → e ≡ emission D i
    → s ≡ cap g → r ≡ plus s (w * e) → r ≡ cap (hour_price D t y i)
unfolding hour_price
gen-price D t y i et eg ew ee es er = er ∙ rw (es, et, eg, ew, ee) (plus-cap (gen_cost D y i) (tax D y * emission D i))
