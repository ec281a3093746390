-- Laws of the peak. Assumes nothing.
use mathlib.Core.Path.{◌≡◌, refl, sym, ap, ◌∙◌}
use mathlib.Core.List.{List}
use Prim.Native.Nat.{ℕ, ◌+◌, ◌*◌, ◌-◌, ◌≤◌, ◌<◌, max}
use native.Mathlib.Nat.{add-sub_cancel_left, mul-pos, mul-one, add-zero}
use native.Mathlib.Omega.{arith}
use lib.ListN.{length, get_or, take, drop, length-drop}
use lib.Seq.{get_or-take, get_or-drop, length-take-le}
use Rattle.sums.specs.Sum.{largest}
use Rattle.sums.proofs.Largest.{largest-same, largest-one, highest, highest-halves}
use Rattle.model.specs.declared.Counts.{Counts}
use Rattle.sums.specs.Index.{box_of, inside}
use Rattle.model.specs.Counts.{sets, slices_of, [yzs]}
use Rattle.model.specs.Data.{read, peak}
use Rattle.tables.specs.Layout.{TablesAt, EntryAt, table_sets}
use Rattle.tables.proofs.Laws.{entry-below, entry-is}

-- The peak, by halves

pub peak-none : (l : List ℕ) → length l ≡ 0 → 0 ≡ highest l
unfolding largest
peak-none l e = rw e

pub peak-one : (l : List ℕ) → length l ≡ 1 → get_or l 0 0 ≡ highest l
peak-one l e = rw e (sym (largest-one (λ i. get_or l i 0)))

-- the halves as the code takes them: parts that end and start at h
pub peak-halves : {r a b : ℕ} (h : ℕ) (l : List ℕ) → r ≡ max a b → a ≡ highest (take h l) → b ≡ highest (drop h l) → r ≡ highest l
peak-halves h l e p q = e ∙ rw (p, q) (sym (highest-halves h l))

-- The part of the Demand table that is read for one year and zone

module _ {l tables-at : List ℕ} {c : Counts} {y z : ℕ} (n : TablesAt l tables-at c) (hy : y < c.years) (hz : z < c.zones) where
  abbrev demand_from : ℕ
  demand_from = get_or tables-at 25 0 + (y * c.zones + z) * slices_of c

  demand-read : (s : ℕ) → s < slices_of c → EntryAt table_sets c 25 [yzs] y z 0 s
  demand-read s h =
      record { table = omega arith; set = refl; inside = record { year = hy; «first» = hz; second = omega arith; slice = h } }

  demand-below : demand_from + slices_of c ≤ length l
  demand-below =
      let some : 0 < slices_of c = mul-pos (mul-pos n.counted.some_seasons n.counted.some_days) n.counted.some_hours in
      let last : slices_of c - 1 < slices_of c = omega arith in
      omega (arith, entry-below n (demand-read (slices_of c - 1) last))

  demand-peak : highest (take (slices_of c) (drop demand_from l)) ≡ peak (read l) y z
  demand-peak =
      let whole : length (take (slices_of c) (drop demand_from l)) ≡ slices_of c = length-take-le (slices_of c) (drop demand_from l) (omega (arith, length-drop demand_from l, demand-below)) in
      rw (whole, n.counts)
      (largest-same (slices_of c)
      (λ s h. get_or-take (slices_of c) (drop demand_from l) s 0 h ∙ get_or-drop demand_from l s 0
      ∙ ap (λ (k : ℕ). get_or l k 0) (omega arith) ∙ entry-is n (demand-read s h)))

  -- the same with the number of slices and the place of the first in locals, as the code has it
  module _ {m o : ℕ} (e : m ≡ slices_of c) (first-slice : o ≡ inside (box_of (sets c) [yzs]) y z 0 0) where
    place : o ≡ (y * c.zones + z) * slices_of c
    place = first-slice ∙ simp (mul-one, add-zero)

    pub part_below : get_or tables-at 25 0 + o + m ≤ length l
    part_below = rw (place, e) demand-below

    pub part-peak : {r : ℕ} → (let from = get_or tables-at 25 0 + o in r ≡ highest (take (from + m - from) (drop from l))) → r ≡ peak (read l) y z
    part-peak h = h ∙ rw (add-sub_cancel_left, place, e) demand-peak
