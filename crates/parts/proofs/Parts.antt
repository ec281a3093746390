-- The year's part of a kind of column by year, plant and slice lies inside the plan, and holds that year's entries.
use mathlib.Core.Path.{◌≡◌, ap, ◌∙◌}
use mathlib.Core.List.{List}
use Prim.Native.Nat.{ℕ, suc, ◌+◌, ◌*◌, ◌-◌, ◌≤◌, ◌<◌}
use native.Mathlib.Nat.{mul-pos, suc-mul}
use native.Mathlib.Omega.{arith}
use lib.ListN.{length, get_or, take, drop, length-drop}
use lib.Seq.{get_or-take, get_or-drop, length-take-le}
use Rattle.model.specs.declared.Counts.{Counts}
use Rattle.model.specs.Counts.{slices_of, [ygs]}
use Rattle.model.specs.Columns.{column_sets, column_kind_count}
use Rattle.tables.specs.Layout.{Counted, ColumnsAt, EntryAt}
use Rattle.tables.proofs.Laws.{column-below, column-is}
use Rattle.parts.specs.Years.{YearPart}
use Rattle.parts.proofs.Laws.{part-below, few-places}

pub places-are : (c : Counts) {n : ℕ} → n ≡ slices_of c → c.plants * n ≡ c.plants * slices_of c
places-are c e = ap (λ (n : ℕ). c.plants * n) e

module _ {plan columns-at : List ℕ} {c : Counts} {y places : ℕ} (few : Counted c) (p : ColumnsAt plan columns-at c) (hy : y < c.years) (q : places ≡ c.plants * slices_of c)
    (t : ℕ) (ht : t < column_kind_count) (e : get_or column_sets t 0 ≡ [ygs]) where
  column : (g s : ℕ) → g < c.plants → s < slices_of c → EntryAt column_sets c t [ygs] y g 0 s
  column g s hg hs = record { table = ht; set = e; inside = record { year = hy; «first» = hg; second = omega arith; slice = hs } }

  -- its last entry is in the plan, so its end is
  part_end : get_or columns-at t 0 + (y + 1) * places ≤ length plan
  part_end =
      let some : 0 < slices_of c = mul-pos (mul-pos few.some_seasons few.some_days) few.some_hours in
      let g = c.plants - 1 in
      let hg : g < c.plants = omega (arith, few.some_plants) in
      let s = slices_of c - 1 in
      let hs : s < slices_of c = omega arith in
      let last : suc g ≡ c.plants = omega arith in
      rw q (omega (arith, column-below p (column g s hg hs), suc-mul g (slices_of c), ap (λ (v : ℕ). v * slices_of c) last))

  pub part-asked : (get_or columns-at t 0 + (y + 1) * places ≤ length plan) × ((places ≤ 12288) × (y < 10))
  part-asked = (part_end, (omega (arith, few-places few), omega (arith, few.few_years)))

  pub part-is : {part : List ℕ} → part ≡ take places (drop (get_or columns-at t 0 + y * places) plan) → YearPart plan part c t y
  part-is h =
      let from = get_or columns-at t 0 + y * places in
      record {
        long = ap length h ∙ length-take-le places (drop from plan) (omega (arith, length-drop from plan, part_end)) ∙ q;
        is = λ g s hg hs.
            rw (h, get_or-take places (drop from plan) (g * slices_of c + s) 0 (rw q (part-below few g s hg hs)), get_or-drop)
            (ap (λ (n : ℕ). get_or plan n 0) (rw q (omega arith)) ∙ column-is p (column g s hg hs));
      }
