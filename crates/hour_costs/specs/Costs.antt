-- The cost year by year, as the code sums it: the tables priced by the hour, and those priced by the year: cap, firmshort and total.
use Rattle.std.specs.Prelude.{ℕ, ◌+◌, ◌*◌, ◌<◌}
use Rattle.sums.specs.Sum.{sum}
use Rattle.sums.specs.Index.{Index, index}
use Rattle.model.specs.declared.Counts.{Counts}
use Rattle.model.specs.Counts.{slices_of}
use Rattle.model.specs.Data.{Data}
use Rattle.model.specs.Prices.{price}
use Rattle.unit_prices.specs.Prices.{Hourly, firsts_of, seconds_of}

-- the kinds of column that are priced by the year: each of their columns has one slice
pub data Yearly : ℕ → Type 0 where
  of_cap : Yearly 0
  of_firmshort : Yearly 9
  of_total : Yearly 13

-- the columns of plant or zone i in year y of table t can be read
pub record Hours (c : Counts) (t y i : ℕ) : Type 0 where
  pub table : Hourly t
  pub year : y < c.years
  pub «first» : i < firsts_of c t

module _ (D : Data) (c : Counts) (x : Index → ℕ) where
  abbrev pub term : Index → ℕ
  term i = price D i * x i

  abbrev pub slices_cost : ℕ → ℕ → ℕ → ℕ
  slices_cost t y i = sum (slices_of c) (λ s. term (index t y i 0 s))

  abbrev pub hourly_cost : ℕ → ℕ → ℕ
  hourly_cost t y = sum (firsts_of c t) (λ i. slices_cost t y i)

  abbrev pub units_cost : ℕ → ℕ → ℕ → ℕ
  units_cost t y i = sum (seconds_of c t) (λ j. term (index t y i j 0))

  abbrev pub yearly_cost : ℕ → ℕ → ℕ
  yearly_cost t y = sum (firsts_of c t) (λ i. units_cost t y i)

  unfoldable pub hours_cost : ℕ → ℕ
  hours_cost y = hourly_cost 3 y + hourly_cost 4 y + hourly_cost 6 y + hourly_cost 7 y + hourly_cost 8 y

  -- build, retire, trans, charge, level and built have no price
  unfoldable pub year_cost : ℕ → ℕ
  year_cost y = yearly_cost 0 y + hours_cost y + yearly_cost 9 y + yearly_cost 13 y
