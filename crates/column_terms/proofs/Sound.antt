-- What data that passed refusals 1 to 3 gives the columns: indices and coefficients in range, and the slices that ramps join. Assumes nothing.
use mathlib.Core.Path.{◌≡◌, ap, ◌∙◌}
use mathlib.Core.Logic.{⊎_elim}
use mathlib.Core.Bool.{true}
use Prim.Native.Nat.{ℕ, ◌+◌, ◌*◌, ◌%◌, ◌≤◌, ◌<◌}
use native.Mathlib.Nat.{mul-le-mul, mul-mod_left, eq-or-lt_of_le}
use native.Mathlib.Omega.{arith}
use borrow.Author.Tests.{ltb-true}
use lib.Dec.{ltb}
use lib.ListN.{get_or}
use Rattle.sums.specs.Index.{box_of}
use Rattle.model.specs.declared.Counts.{Counts}
use Rattle.model.specs.Counts.{sets, slices_of}
use Rattle.model.specs.Data.{Data, table_boxes, zone, fuel, rate, weight, availability, loss}
use Rattle.model.specs.Standing.{Placed}
use Rattle.model.proofs.Sound.{entry-range, placed}
use Rattle.tables.specs.declared.lists.TestedTables.{TestedTables}
use Rattle.tables.specs.Layout.{Inside}
use Rattle.tables.specs.Lists.{data_of}
use Rattle.column_terms.specs.Pairs.{family_sets}
use Rattle.column_terms.specs.Ramps.{RampAt}
use Rattle.column_terms.proofs.Laws.{row_at}

module _ (t : TestedTables) where
  abbrev D : Data
  D = data_of t.tables.now

  abbrev c : Counts
  c = t.tables.now.counts

  pub sound-placed : Placed D
  sound-placed = let n = t.tables.now.laid_out in placed D t.tested (rw n.counts n.counted.some_zones) (rw n.counts n.counted.some_fuels)

  pub zone-below : {g : ℕ} → g < c.plants → zone D g < c.zones
  zone-below {g} h = let e = t.tables.now.laid_out.counts in rw e at (sound-placed.zoned g (rw e h))

  pub fuel-below : {g : ℕ} → g < c.plants → fuel D g < c.fuels
  fuel-below {g} h = let e = t.tables.now.laid_out.counts in rw e at (sound-placed.fuelled g (rw e h))

  pub few-availability : {g q : ℕ} → g < c.plants → q < c.seasons → availability D g q ≤ 1000
  unfolding table_boxes
  few-availability {g} {q} hg hq =
      let e = t.tables.now.laid_out.counts in
      (entry-range D t.tested 20 0 g 0 q (omega arith, omega arith, rw e hg, omega arith, rw e hq)).1

  pub few-loss : {y z w : ℕ} → y < c.years → z < c.zones → w < c.zones → loss D y z w ≤ 1000
  unfolding table_boxes
  few-loss {y} {z} {w} hy hz hw =
      let e = t.tables.now.laid_out.counts in
      (entry-range D t.tested 30 y z w 0 (omega arith, rw e hy, rw e hz, rw e hw, omega arith)).1

  -- R·V
  pub few-weights : {y : ℕ} → y < c.years → rate D y * weight D y ≤ 20000
  unfolding table_boxes
  few-weights {y} hy =
      let e = t.tables.now.laid_out.counts in
      mul-le-mul (entry-range D t.tested 0 y 0 0 0 (omega arith, rw e hy, omega arith, omega arith, omega arith)).1
      (entry-range D t.tested 1 y 0 0 0 (omega arith, rw e hy, omega arith, omega arith, omega arith)).1

-- the slice after a slice, where it is in the same day
pub next-slice : (c : Counts) {s : ℕ} → s < slices_of c → ltb 0 ((s + 1) % c.hours) ≡ true → s + 1 < slices_of c
next-slice c {s} h e =
    let below : s + 1 ≤ slices_of c = omega arith in
    ⊎_elim (λ (q : s + 1 ≡ slices_of c). absurd (last q)) (λ (q : s + 1 < slices_of c). q) (eq-or-lt_of_le below)
  where
    last : s + 1 ≡ slices_of c → ⊥
    last q =
        let p : 0 < (s + 1) % c.hours = ltb-true _ _ e in
        let z : (s + 1) % c.hours ≡ 0 = ap (λ (n : ℕ). n % c.hours) q ∙ mul-mod_left (c.seasons * c.days) c.hours in
        omega arith

-- a ramp's indices, and the ramp of the slice after, where that is in the same day
module _ {c : Counts} {set k y i s : ℕ} (r : RampAt c set k y i s) where
  pub ramp-inside : Inside c set y i 0 s
  ramp-inside = rw r.over at r.own.inside

  pub ramp-slice : s < slices_of c
  ramp-slice = rw r.slices at ramp-inside.slice

  pub next-ramp : ltb 0 ((s + 1) % c.hours) ≡ true → RampAt c set k y i (s + 1)
  next-ramp e =
      let w = r.own in
      let here : s + 1 < (box_of (sets c) (get_or family_sets k 0)).slices = rw (r.over, r.slices) (next-slice c ramp-slice e) in
      record { own = row_at w.family w.inside.year w.inside.first w.inside.second here; over = r.over; slices = r.slices }
