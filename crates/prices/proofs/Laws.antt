-- Laws of the cost. Assumes nothing.
use mathlib.Core.Path.{◌≡◌, refl, sym, ◌∙◌, ap}
use mathlib.Core.List.{List, [], ◌∷◌}
use Prim.Native.Nat.{ℕ, ◌+◌, ◌*◌, ◌<◌}
use native.Mathlib.Nat.{zero-add, add-zero, add_assoc, zero-mul}
use native.Mathlib.Omega.{arith}
use lib.ListN.{get_or, length}
use Rattle.capped.specs.Cap.{cap, times, Sum}
use Rattle.capped.proofs.Laws.{times-cap}
use Rattle.sums.specs.Sum.{sum}
use Rattle.sums.specs.Index.{Index, index, box_of}
use Rattle.sums.proofs.ByKind.{terms}
use Rattle.sums.proofs.Lists.{Alls, at_place}
use Rattle.sums.proofs.Sums.{sum-add, sum-single, sum-const-zero}
use Rattle.model.specs.declared.Counts.{Counts}
use Rattle.model.specs.Counts.{sets}
use Rattle.model.specs.Data.{Data}
use Rattle.model.specs.Columns.{column_boxes, column_sets, column_kind_count}
use Rattle.model.specs.Prices.{price, cost}
use Rattle.tables.specs.Layout.{EntryAt}
use Rattle.unit_prices.specs.Prices.{set_of, firsts_of, seconds_of}
use Rattle.column_prices.specs.Factors.{unit_price}
use Rattle.hour_costs.specs.Costs.{Yearly, of_cap, of_firmshort, of_total, yearly_cost, hours_cost, year_cost}

-- The tables priced by the year

-- what is true of each of them: one slice, every year, and the price of a column, which is that of its unit
pub record ByYear (t : ℕ) : Type 0 where
  pub below : t < column_kind_count
  pub every_year : (c : Counts) → (box_of (sets c) (set_of t)).years ≡ c.years
  pub one_slice : (c : Counts) → (box_of (sets c) (set_of t)).slices ≡ 1
  pub priced : (D : Data) (y i j : ℕ) → unit_price D t y i j ≡ price D (index t y i j 0)

pub by-year : {t : ℕ} → Yearly t → ByYear t
unfolding price unit_price
by-year of_cap = record { below = omega arith; every_year = λ c. refl; one_slice = λ c. refl; priced = λ D y i j. refl }
by-year of_firmshort = record { below = omega arith; every_year = λ c. refl; one_slice = λ c. refl; priced = λ D y i j. refl }
by-year of_total = record { below = omega arith; every_year = λ c. refl; one_slice = λ c. refl; priced = λ D y i j. refl }

-- a column of one of them can be read
pub yearly-entry : {c : Counts} {t k y i j : ℕ} → Yearly t → k ≡ set_of t → y < c.years → i < firsts_of c t → j < seconds_of c t → EntryAt column_sets c t k y i j 0
yearly-entry {c} h e hy hi hj = record {
  table = (by-year h).below;
  set = sym e;
  inside = rw e (record { year = rw ((by-year h).every_year c) hy; «first» = hi; second = hj; slice = rw ((by-year h).one_slice c) (omega arith) });
}

-- its units at their price
pub units-priced : (D : Data) {t : ℕ} → Yearly t → (y i j : ℕ) {u r : Sum} {n v : ℕ} → u ≡ cap (unit_price D t y i j) → n ≡ v → r ≡ times u n → r ≡ cap (price D (index t y i j 0) * v)
units-priced D {t} h y i j {v = v} eu en er = er ∙ rw (eu, en) (times-cap (unit_price D t y i j) v ∙ ap (λ (p : ℕ). cap (p * v)) ((by-year h).priced D y i j))

-- The cost by years

-- written out, a term for each table
sum-kinds : (f : ℕ → ℕ) → sum column_kind_count f ≡ terms column_kind_count f
unfolding sum
sum-kinds f = omega arith

module _ (D : Data) (y i j s : ℕ) where
  build-free : price D (index 1 y i j s) ≡ 0
  unfolding price
  build-free = refl

  retire-free : price D (index 2 y i j s) ≡ 0
  unfolding price
  retire-free = refl

  trans-free : price D (index 5 y i j s) ≡ 0
  unfolding price
  trans-free = refl

  charge-free : price D (index 10 y i j s) ≡ 0
  unfolding price
  charge-free = refl

  level-free : price D (index 11 y i j s) ≡ 0
  unfolding price
  level-free = refl

  built-free : price D (index 12 y i j s) ≡ 0
  unfolding price
  built-free = refl

pub cost-by-year : (D : Data) (c : Counts) (x : Index → ℕ) → D.counts ≡ c → cost D x ≡ sum c.years (λ y. year_cost D c x y)
unfolding cost column_boxes year_cost hours_cost
cost-by-year D c x e =
    rw (← e)
    (sum-kinds _ ∙ simp (sum-single, build-free, retire-free, trans-free, charge-free, level-free, built-free, zero-mul, sum-const-zero, sum-add, zero-add, add-zero, add_assoc))

-- All tables priced by the year

-- each of a list of such kinds is one
pub yearly-at : (kinds : List ℕ) → Alls (λ k. Yearly) kinds → (k : ℕ) → k < length kinds → Yearly (get_or kinds k 0)
yearly-at kinds h k l = at_place (λ i. Yearly) kinds 0 h k l

-- in their order
abbrev pub yearly : List ℕ
yearly = 0 ∷ 9 ∷ 13 ∷ []

pub year-sum : (D : Data) (c : Counts) (x : Index → ℕ) (y : ℕ) → sum 3 (λ k. yearly_cost D c x (get_or yearly k 0) y) + hours_cost D c x y ≡ year_cost D c x y
unfolding sum year_cost
year-sum D c x y = omega arith

pub ruleset year_laws = (by-year, yearly-at, of_cap, of_firmshort, of_total)
