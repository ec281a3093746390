-- The parts of a signed number, the starts of the families, a row's place among the multipliers, and the tests of refusals 9 and 10. Assumes nothing.
use Rattle.std.specs.Prelude.{Result, Err}
use Rattle.model.specs.Calls.{outcome}
use mathlib.Core.Path.{◌≡◌, refl, sym, ap, ◌∙◌, fun_ext}
use mathlib.Core.Bool.{Bool, true, false, ◌&&◌}
use mathlib.Core.List.{List}
use Prim.Native.Nat.{ℕ, ◌+◌, ◌-◌, ◌≤◌, ◌<◌}
use native.Mathlib.Nat.{mul-le-mul}
use native.Mathlib.Omega.{arith}
use borrow.Author.Tests.{ltb-true, eq-eqb, ne_eqb}
use lib.Dec.{leb}
use lib.IntN.{ℤ, pos, negsuc, nat_abs}
use lib.ListN.{length, get_or}
use lib.Signed.{lt_z}
use Rattle.sums.specs.declared.Box.{Box}
use Rattle.sums.specs.Sum.{on}
use Rattle.sums.specs.Span.{Fault, fine, fault, or_else, upto}
use Rattle.sums.specs.Index.{index, box, box_of, volume, inside, start, count, number, Member}
use Rattle.sums.proofs.Sums.{sum-one-more, sum-prefix}
use Rattle.sums.proofs.Spans.{upto-stop}
use Rattle.sums.proofs.Numbering.{number_bound}
use Rattle.sums.proofs.Flat.{box-first}
use Rattle.model.specs.declared.Counts.{Counts}
use Rattle.model.specs.declared.Family.{Family}
use Rattle.model.specs.declared.Refusal.{Refusal}
use Rattle.model.specs.declared.Refusal.TheVariants.{MultiplierCount, Multiplier}
use Rattle.model.specs.declared.Shape.{Shape}
use Rattle.model.specs.Counts.{sets}
use Rattle.model.specs.Data.{Data}
use Rattle.model.specs.Families.{family_of, row_boxes, shape_of, family_count}
use Rattle.model.specs.Tests.{unless, part⁺, part⁻, most_multiplier, multiplier, multiplier_count_fault, multiplier_fault, multipliers_fault}
use Rattle.tables.proofs.Laws.{get_or-map-in, small-set}
use Rattle.tables.proofs.Members.{family-box, row_inside}
use Rattle.tables.proofs.Walk.{Reached, begun, turned, ended}
use Rattle.duals.specs.declared.Multiplier as part
use Rattle.duals.specs.Multipliers.{multiplier_of, Shaped, RowsAt}

-- The parts of a signed number

-- below zero its size is the part below, else the part above
pub below_zero : (m : ℤ) {n : ℕ} → n ≡ nat_abs m → lt_z m (pos 0) ≡ true → record { up = 0; down = n } ≡ multiplier_of m
unfolding multiplier_of
below_zero (pos k) e q = let h : k < 0 = ltb-true _ _ q in absurd (omega arith)
below_zero (negsuc k) e q = rw e

pub not_below_zero : (m : ℤ) {n : ℕ} → n ≡ nat_abs m → lt_z m (pos 0) ≡ false → record { up = n; down = 0 } ≡ multiplier_of m
unfolding multiplier_of
not_below_zero (pos k) e q = rw e
not_below_zero (negsuc k) e q = let z : ◌≡◌ {A = ℕ} 0 1 = cc in absurd (omega arith)

-- The families of rows

pub row-kinds : (c : Counts) → length (row_boxes c) ≡ family_count
unfolding row_boxes
row-kinds c = refl

-- after the last family the rows end
pub rows_end : (c : Counts) {n : ℕ} → n ≡ start (row_boxes c) family_count → n ≡ count (row_boxes c)
rows_end c e = rw (row-kinds c) e

module _ {shape : Shape} (h : Shaped shape) where
  pub all-sizes : length shape.sizes ≡ family_count
  unfolding shape_of row_boxes
  all-sizes = ap (λ (s : Shape). length s.sizes) h.sized

  pub size-at : {k : ℕ} → k < family_count → get_or shape.sizes k 0 ≡ volume (box_of (row_boxes shape.counts) k)
  unfolding shape_of row_boxes
  size-at {k} l =
      ap (λ (s : Shape). get_or s.sizes k 0) h.sized ∙ get_or-map-in (λ (b : Box). volume b) (row_boxes shape.counts) (box 0 0 0 0) 0 k l

  pub few-rows : {k : ℕ} → k < family_count → get_or shape.sizes k 0 ≤ 983040
  few-rows {k} l =
      let s = small-set h.counted (family_of k).set in
      omega (
        arith,
        size-at l,
        ap (λ (b : Box). volume b) (family-box shape.counts l),
        mul-le-mul (mul-le-mul (mul-le-mul s.few_years s.few_firsts) s.few_seconds) s.few_slices,
      )

-- A row's place among the multipliers

module _ {c : Counts} {k y i j s : ℕ} (m : Member (row_boxes c) (index k y i j s)) where
  module _ {ms : List ℤ} {rows_at : List ℕ} (d : RowsAt ms rows_at c) where
    pub row_is : get_or rows_at k 0 + inside (box_of (sets c) (family_of k).set) y i j s ≡ number (row_boxes c) (index k y i j s)
    row_is =
        let l = (row_inside c m).0 in
        omega (arith, d.starts k (omega arith), ap (λ (b : Box). inside b y i j s) (family-box c l))

    pub row_below : get_or rows_at k 0 + inside (box_of (sets c) (family_of k).set) y i j s < length ms
    row_below = omega (arith, row_is, d.whole, number_bound (row_boxes c) (index k y i j s) m)

-- Refusal 10, by row number

module _ (ms : List ℤ) where
  unfoldable pub row_fault : Bool → ℕ → Fault Refusal
  row_fault equal n =
      unless (leb (part⁺ (get_or ms n (pos 0))) most_multiplier && leb (part⁻ (get_or ms n (pos 0))) (on equal most_multiplier)) (Multiplier n)

  abbrev pub family_fault : Counts → ℕ → Fault Refusal
  family_fault c k = upto (volume (box_of (row_boxes c) k)) (λ v. row_fault (family_of k).equal (start (row_boxes c) k + v))

  pub all-multipliers : (D : Data) {c : Counts} → D.counts ≡ c → multipliers_fault D ms ≡ upto family_count (family_fault c)
  unfolding multipliers_fault multiplier_fault multiplier row_fault
  all-multipliers D e =
      let boxes = row_boxes D.counts in
      ap (upto (length boxes)) (fun_ext (λ k. box-first (box_of boxes k) (λ v. row_fault (family_of k).equal (start boxes k + v))))
      ∙ ap (λ (n : ℕ). upto n (family_fault D.counts)) (row-kinds D.counts)
      ∙ ap (λ (c : Counts). upto family_count (family_fault c)) e

  -- what the test of one multiplier says
  pub tested : (equal : Bool) (n : ℕ) {ok : Bool} {m : part.Multiplier} → m ≡ multiplier_of (get_or ms n (pos 0))
      → ok ≡ (leb m.up most_multiplier && leb m.down (on equal most_multiplier)) → row_fault equal n ≡ unless ok (Multiplier n)
  unfolding row_fault multiplier_of
  tested equal n e q = rw (q, e)

  -- by the family that the loop has read
  pub family-faults : (c : Counts) (k : ℕ) {f : Family} → f ≡ family_of k
      → family_fault c k ≡ upto (volume (box_of (row_boxes c) k)) (λ v. row_fault f.equal (start (row_boxes c) k + v))
  family-faults c k e = rw e

  -- the loop over the rows of a family, `size` of them from the row `first` on, at one of them; a record, so that a law finds the rows in it
  pub record Rows (equal : Bool) (first size row : ℕ) : Type 0 where
    pub at : Reached (λ v. row_fault equal (first + v)) (λ v. first + v) (row - first) size row

  module _ {equal : Bool} {first size row : ℕ} where
    pub rows-begun : row ≡ first → Rows equal first size row
    rows-begun h = let z : row - first ≡ 0 = omega (arith, h) in record { at = rw z (begun (omega (arith, h))) }

    module _ (r : Rows equal first size row) where
      pub rows-turned : row < first + size → row_fault equal row ≡ fine → Rows equal first size (row + 1)
      rows-turned l e =
          let here = r.at.here in
          let next : row + 1 - first ≡ row - first + 1 = omega (arith, here) in
          record { at = rw next (turned r.at (omega (arith, here)) (rw (← here) e) (omega (arith, here))) }

      pub rows-ended : first + size ≤ row → upto size (λ v. row_fault equal (first + v)) ≡ fine
      rows-ended l = (ended r.at (omega (arith, r.at.here))).0

      pub rows-stopped : {x : Refusal} → row < first + size → row_fault equal row ≡ fault x → upto size (λ v. row_fault equal (first + v)) ≡ fault x
      rows-stopped l e = upto-stop _ (row - first) _ (omega (arith, r.at.here)) r.at.so (rw (← r.at.here) e)

-- A family's rows are those from its start to the next one, and all of them are rows
module _ {c : Counts} {ms : List ℤ} {rows_at : List ℕ} (d : RowsAt ms rows_at c) {k : ℕ} (l : k < family_count) where
  pub family-start : get_or rows_at k 0 ≡ start (row_boxes c) k
  family-start = d.starts k (omega arith)

  pub family-end : get_or rows_at (k + 1) 0 ≡ start (row_boxes c) k + volume (box_of (row_boxes c) k)
  family-end = omega (arith, d.starts (k + 1) (omega arith), sum-one-more k (λ i. volume (box_of (row_boxes c) i)))

  pub family-rows : get_or rows_at (k + 1) 0 ≤ length ms
  family-rows =
      let boxes = row_boxes c in
      omega (arith, d.whole, d.starts (k + 1) (omega arith), sum-prefix (k + 1) (length boxes) (λ i. volume (box_of boxes i)) (rw (row-kinds c) (omega arith)))

-- Refusal 9, and then 10

module _ (ms : List ℤ) (D : Data) {c : Counts} (same : D.counts ≡ c) {n : ℕ} (whole : n ≡ count (row_boxes c)) where
  rows_of : n ≡ count (row_boxes D.counts)
  rows_of = whole ∙ ap (λ (d : Counts). count (row_boxes d)) (sym same)

  pub count-wrong : (length ms ≡ n → ⊥) → Err (MultiplierCount n) ≡ outcome (or_else (multiplier_count_fault D ms) (multipliers_fault D ms))
  unfolding multiplier_count_fault unless or_else
  count-wrong h = rw (← rows_of, ne_eqb (length ms) n h)

  pub count-right : {o : Result (Unit {0}) Refusal} → length ms ≡ n → o ≡ outcome (multipliers_fault D ms) → o ≡ outcome (or_else (multiplier_count_fault D ms) (multipliers_fault D ms))
  unfolding multiplier_count_fault unless or_else
  count-right h e = rw (← rows_of, eq-eqb (length ms) n h) e
