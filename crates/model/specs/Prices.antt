-- The prices of the columns, in millionths of a money unit, and the cost.
use Rattle.std.specs.Prelude.{List, [], ◌∷◌, ℕ, ◌+◌, ◌*◌, ltb, get_or}
use Rattle.sums.specs.Sum.{on}
use Rattle.sums.specs.Span.{total}
use Rattle.sums.specs.Index.{Index, index}
use Rattle.model.specs.Data.{Data, rate, weight, duration, annuity, fixed_om, gen_cost, tax, emission, res_cost, voll, surplus_penalty, sres_voll, res_voll, candidate, line_annuity}
use Rattle.model.specs.Columns.{columns}

module _ (D : Data) where
  -- W = R·V
  abbrev pub year_weight : ℕ → ℕ
  year_weight y = rate D y * weight D y

  -- the price of a column of each table at a year, a first and a second index and a slice
  abbrev pub prices : ℕ → ℕ → ℕ → ℕ → List ℕ
  prices y i j s =
      year_weight y * (fixed_om D y i + on (candidate D i) (annuity D y i))  -- cap
      ∷ 0  -- build
      ∷ 0  -- retire
      ∷ year_weight y * duration D s * (gen_cost D y i + tax D y * emission D i)  -- gen
      ∷ year_weight y * duration D s * res_cost D i  -- reserve
      ∷ 0  -- trans
      ∷ year_weight y * duration D s * voll D  -- unmet
      ∷ year_weight y * duration D s * surplus_penalty D  -- surplus
      ∷ year_weight y * duration D s * sres_voll D  -- spinshort
      ∷ year_weight y * res_voll D  -- firmshort
      ∷ 0  -- charge
      ∷ 0  -- level
      ∷ 0  -- built
      ∷ year_weight y * on (ltb i j) (line_annuity D i j)  -- total: a pair pays once, with the lower zone first
      ∷ []

  unfoldable pub price : Index → ℕ
  price (index k y i j s) = get_or (prices y i j s) k 0

  -- Σ c·entry
  unfoldable pub cost : (Index → ℕ) → ℕ
  cost x = total (columns D) (λ c. price c * x c)
