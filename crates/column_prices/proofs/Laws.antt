-- Laws of a column's price in two factors. Assumes nothing.
use mathlib.Core.Path.{◌≡◌, refl, ◌∙◌, ap}
use mathlib.Core.Bool.{Bool, true, false, cond}
use mathlib.Core.List.{List, [], ◌∷◌}
use Prim.Native.Nat.{ℕ, ◌*◌, ◌<◌}
use native.Mathlib.Nat.{mul-one, mul_comm, mul_left_comm}
use native.Mathlib.Omega.{arith}
use Rattle.capped.specs.Cap.{cap, times, Sum}
use Rattle.capped.proofs.Laws.{times-cap}
use Rattle.sums.specs.declared.Place.{Place}
use Rattle.sums.specs.Index.{index, index_of, box, box_of}
use Rattle.sums.proofs.ByKind.{◌▹◌}
use Rattle.model.specs.declared.Counts.{Counts}
use Rattle.model.specs.Counts.{sets, slices_of}
use Rattle.model.specs.Data.{Data, duration}
use Rattle.model.specs.Columns.{column_kind_count}
use Rattle.model.specs.Prices.{price, year_weight}
use Rattle.tables.proofs.Laws.{among, NoneAmong, none-among}
use Rattle.unit_prices.specs.Prices.{Hourly, gen, reserve, unmet, surplus, spinshort, set_of, firsts_of, hour_price}
use Rattle.column_prices.specs.Factors.{unit_price, hours_of}

-- The tables priced by the hour

-- what is true of each of them: the columns are by year, plant or zone, and slice; the price of a column, and its two factors
pub record ByHour (t : ℕ) : Type 0 where
  pub below : t < column_kind_count
  pub own : (c : Counts) → box_of (sets c) (set_of t) ≡ box c.years (firsts_of c t) 1 (slices_of c)
  pub priced : (D : Data) (y i s : ℕ) → price D (index t y i 0 s) ≡ year_weight D y * duration D s * hour_price D t y i
  pub unit : (D : Data) (y i j : ℕ) → unit_price D t y i j ≡ hour_price D t y i * year_weight D y
  pub hours : (D : Data) (s : ℕ) → hours_of D t s ≡ duration D s

pub by-hour : {t : ℕ} → Hourly t → ByHour t
unfolding price hour_price unit_price hours_of
by-hour gen = record { below = omega arith; own = λ c. refl; priced = λ D y i s. refl; unit = λ D y i j. refl; hours = λ D s. refl }
by-hour reserve = record { below = omega arith; own = λ c. refl; priced = λ D y i s. refl; unit = λ D y i j. refl; hours = λ D s. refl }
by-hour unmet = record { below = omega arith; own = λ c. refl; priced = λ D y i s. refl; unit = λ D y i j. refl; hours = λ D s. refl }
by-hour surplus = record { below = omega arith; own = λ c. refl; priced = λ D y i s. refl; unit = λ D y i j. refl; hours = λ D s. refl }
by-hour spinshort = record { below = omega arith; own = λ c. refl; priced = λ D y i s. refl; unit = λ D y i j. refl; hours = λ D s. refl }

-- A column's price in two factors

-- the kinds of column that are not priced by the hour
abbrev by_unit : List ℕ
by_unit = 0 ∷ 1 ∷ 2 ∷ 5 ∷ 9 ∷ 10 ∷ 11 ∷ 12 ∷ 13 ∷ []

not-both : {A : Type 0} → true ≡ false → A
not-both e = let z : ◌≡◌ {A = ℕ} 0 1 = ap (λ (b : Bool). cond b 0 1) e in absurd (omega arith)

others-hourly : (k : ℕ) → k < column_kind_count → among by_unit k ≡ false → Hourly k
others-hourly =
    (λ i l. absurd (omega arith))
    ▹ not-both
    ▹ not-both
    ▹ not-both
    ▹ (λ e. gen)
    ▹ (λ e. reserve)
    ▹ not-both
    ▹ (λ e. unmet)
    ▹ (λ e. surplus)
    ▹ (λ e. spinshort)
    ▹ not-both
    ▹ not-both
    ▹ not-both
    ▹ not-both
    ▹ not-both

-- what the last arm of a `match` over the others knows
pub rest-hourly : (k : ℕ) → k < column_kind_count → NoneAmong (Unit {0}) by_unit k → Hourly k
rest-hourly k l h = others-hourly k l (none-among k by_unit h).1

pub ruleset column_laws = (by-hour, rest-hourly)

-- a column's price is that of its unit times its hours
module _ (D : Data) (y i j s : ℕ) where
  in_order : (p : ℕ) → p * year_weight D y * duration D s ≡ year_weight D y * duration D s * p
  in_order p = simp (mul_comm, mul_left_comm)

  pub price-factors : (k : ℕ) → k < column_kind_count → unit_price D k y i j * hours_of D k s ≡ price D (index k y i j s)
  unfolding unit_price hours_of hour_price price
  price-factors =
      (λ i l. absurd (omega arith))
      ▹ mul-one _
      ▹ refl
      ▹ refl
      ▹ in_order _
      ▹ in_order _
      ▹ refl
      ▹ in_order _
      ▹ in_order _
      ▹ in_order _
      ▹ mul-one _
      ▹ refl
      ▹ refl
      ▹ refl
      ▹ mul-one _

-- so is what the code makes of the two
pub column-price : (D : Data) (p : Place) {unit whole : Sum} {hours : ℕ} → p.kind < column_kind_count → unit ≡ cap (unit_price D p.kind p.year p.first p.second)
    → hours ≡ hours_of D p.kind p.slice → whole ≡ times unit hours → whole ≡ cap (price D (index_of p))
column-price D p l e h q =
    q ∙ rw (e, h) (times-cap (unit_price D p.kind p.year p.first p.second) (hours_of D p.kind p.slice) ∙ ap cap (price-factors D p.year p.first p.second p.slice p.kind l))
