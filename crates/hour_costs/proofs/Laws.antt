-- Laws of the cost of the tables priced by the hour. Assumes nothing.
use mathlib.Core.Path.{◌≡◌, refl, sym, ◌∙◌, ap}
use mathlib.Core.List.{List, [], ◌∷◌}
use Prim.Native.Nat.{ℕ, ◌+◌, ◌*◌, ◌-◌, ◌≤◌, ◌<◌}
use native.Mathlib.Nat.{mul_comm, mul_assoc, mul_left_comm, mul-pos}
use native.Mathlib.Omega.{arith}
use lib.ListN.{length, get_or, take, drop, length-take, length-drop}
use lib.Seq.{get_or-take, get_or-drop}
use Rattle.capped.specs.Cap.{cap, times_both, Sum}
use Rattle.capped.proofs.Laws.{times-both}
use Rattle.sums.specs.Sum.{sum}
use Rattle.sums.specs.Index.{Index, index, box_of, inside}
use Rattle.sums.proofs.Lists.{Alls, at_place}
use Rattle.sums.proofs.Sums.{sum-cong, sum-scale}
use Rattle.model.specs.declared.Counts.{Counts}
use Rattle.model.specs.Counts.{sets, slices_of}
use Rattle.model.specs.Data.{Data, duration}
use Rattle.model.specs.Columns.{column_sets}
use Rattle.model.specs.Prices.{year_weight}
use Rattle.tables.specs.declared.lists.Plan.{Plan}
use Rattle.tables.specs.Layout.{Inside, EntryAt}
use Rattle.tables.specs.Lists.{entry_of}
use Rattle.tables.proofs.Laws.{column_place, column-below, column-is}
use Rattle.unit_prices.specs.Prices.{Hourly, gen, reserve, unmet, surplus, spinshort, set_of, hour_price}
use Rattle.hour_costs.specs.Costs.{Hours, slices_cost, hourly_cost, hours_cost}
use Rattle.column_prices.specs.Factors.{unit_price}
use Rattle.column_prices.proofs.Laws.{by-hour}

-- The tables priced by the hour

-- the hours summed first and priced once
module _ (D : Data) (c : Counts) (x : Index → ℕ) {t : ℕ} (h : Hourly t) (y i : ℕ) (part : List ℕ) (e : (s : ℕ) → s < slices_of c → get_or part s 0 ≡ x (index t y i 0 s)) where
  abbrev hours : ℕ
  hours = sum (slices_of c) (λ s. duration D s * get_or part s 0)

  abbrev per_hour : ℕ
  per_hour = hour_price D t y i * year_weight D y

  hours-cost : per_hour * hours ≡ slices_cost D c x t y i
  hours-cost =
      sym (sum-scale (slices_of c) per_hour (λ s. duration D s * get_or part s 0))
      ∙ sum-cong (slices_of c) (λ s l. rw (e s l, (by-hour h).priced D y i s) (simp (mul_comm, mul_assoc, mul_left_comm)))

  pub hours-priced : {p m r : Sum} → p ≡ cap (unit_price D t y i 0) → m ≡ cap hours → r ≡ times_both p m → r ≡ cap (slices_cost D c x t y i)
  hours-priced ep em er = er ∙ rw (ep, em, (by-hour h).unit D y i 0) (times-both per_hour hours ∙ ap cap hours-cost)

-- The part of the plan that holds the slices of plant or zone i in year y
module _ (plan : Plan) {t y i : ℕ} (m : Hours plan.counts t y i) where
  pub slices-inside : {k s : ℕ} → k ≡ set_of t → s < slices_of plan.counts → Inside plan.counts k y i 0 s
  slices-inside e l = rw e (record {
    year = rw ((by-hour m.table).own plan.counts) m.year;
    «first» = m.first;
    second = rw ((by-hour m.table).own plan.counts) (omega arith);
    slice = rw ((by-hour m.table).own plan.counts) l;
  })

  pub some-slices : 0 < slices_of plan.counts
  some-slices = mul-pos (mul-pos plan.counted.some_seasons plan.counted.some_days) plan.counted.some_hours

  column : {s : ℕ} → s < slices_of plan.counts → EntryAt column_sets plan.counts t (set_of t) y i 0 s
  column l = record { table = (by-hour m.table).below; set = refl; inside = slices-inside refl l }

  -- the code has the index set's code k, the place o of the first slice inside the table, and the number n of slices in locals
  module _ {k o n : ℕ} (ek : k ≡ set_of t) (eo : o ≡ inside (box_of (sets plan.counts) k) y i 0 0) (en : n ≡ slices_of plan.counts) where
    place_is : {s : ℕ} (l : s < slices_of plan.counts) → get_or plan.starts t 0 + o + s ≡ column_place plan.laid_out (column l)
    place_is l = rw (eo, ek) (omega arith)

    pub slices-fit : get_or plan.starts t 0 + o + n ≤ length plan.list.now
    slices-fit =
        let last : slices_of plan.counts - 1 < slices_of plan.counts = omega (arith, some-slices) in
        omega (arith, en, place_is last, column-below plan.laid_out (column last))

    abbrev pub slices : List ℕ
    slices = take n (drop (get_or plan.starts t 0 + o) plan.list.now)

    pub slices-are : (length slices ≡ slices_of plan.counts) × ((s : ℕ) → s < slices_of plan.counts → get_or slices s 0 ≡ entry_of plan (index t y i 0 s))
    slices-are = (
      omega (arith, length-take n (drop (get_or plan.starts t 0 + o) plan.list.now), length-drop (get_or plan.starts t 0 + o) plan.list.now, slices-fit),
      λ s l.
          get_or-take n (drop (get_or plan.starts t 0 + o) plan.list.now) s 0 (omega arith)
          ∙ get_or-drop (get_or plan.starts t 0 + o) plan.list.now s 0 ∙ ap (λ (p : ℕ). get_or plan.list.now p 0) (place_is l) ∙ column-is plan.laid_out (column l),
    )

-- All tables priced by the hour

-- each of a list of such kinds is one
pub hourly-at : (kinds : List ℕ) → Alls (λ k. Hourly) kinds → (k : ℕ) → k < length kinds → Hourly (get_or kinds k 0)
hourly-at kinds h k l = at_place (λ i. Hourly) kinds 0 h k l

pub ruleset hourly_laws = (hourly-at, gen, reserve, unmet, surplus, spinshort)

-- in their order
abbrev pub hourly : List ℕ
hourly = 3 ∷ 4 ∷ 6 ∷ 7 ∷ 8 ∷ []

pub hours-sum : (D : Data) (c : Counts) (x : Index → ℕ) (y : ℕ) → sum 5 (λ k. hourly_cost D c x (get_or hourly k 0) y) ≡ hours_cost D c x y
unfolding sum hours_cost
hours-sum D c x y = omega arith
