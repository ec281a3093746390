-- A column's price in two factors.
use Rattle.std.specs.Prelude.{[], ◌∷◌, ℕ, ◌+◌, ◌*◌, ltb, get_or}
use Rattle.sums.specs.Sum.{on}
use Rattle.model.specs.Data.{Data, duration, annuity, fixed_om, candidate, res_voll, line_annuity}
use Rattle.model.specs.Prices.{year_weight}
use Rattle.unit_prices.specs.Prices.{hour_price}

-- the price of a unit of table k, or of a unit's hour where the table is priced by the hour
unfoldable pub unit_price : Data → ℕ → ℕ → ℕ → ℕ → ℕ
unit_price D k y i j =
    let W = year_weight D y in
    let hour = hour_price D k y i * W in
    get_or (W * (fixed_om D y i + on (candidate D i) (annuity D y i)) ∷ 0 ∷ 0 ∷ hour ∷ hour ∷ 0 ∷ hour ∷ hour ∷ hour ∷ W * res_voll D ∷ 0 ∷ 0 ∷ 0 ∷ W * on (ltb i j) (line_annuity D i j) ∷ []) k 0

-- the hours of a slice, 1 in a table that is not priced by the hour
unfoldable pub hours_of : Data → ℕ → ℕ → ℕ
hours_of D k s = get_or (1 ∷ 1 ∷ 1 ∷ duration D s ∷ duration D s ∷ 1 ∷ duration D s ∷ duration D s ∷ duration D s ∷ 1 ∷ 1 ∷ 1 ∷ 1 ∷ 1 ∷ []) k 1
