-- The sums of a column, made term by term: the laws of the steps and of the groups, and the ramps by the names of the model. Assumes nothing.
-- `Priced` is a record, so that a law finds the coefficients in it.
use mathlib.Core.Path.{◌≡◌, refl, sym, ap₂, ◌∙◌}
use mathlib.Core.Bool.{Bool, true, false}
use mathlib.Core.List.{List}
use Prim.Native.Nat.{ℕ, ◌+◌, ◌<◌}
use native.Mathlib.Nat.{add-sub_cancel}
use native.Mathlib.Omega.{arith}
use lib.IntN.{ℤ}
use lib.ListN.{get_or}
use Rattle.capped.specs.Cap.{cap}
use Rattle.capped.proofs.Laws.{plus-cap, both-cap}
use Rattle.sums.specs.Sum.{sum}
use Rattle.sums.specs.Index.{Index, index, box_of, Member}
use Rattle.sums.specs.Linear.{Linear, nothing, ◌·◌, ∑, ◌⊕◌, when, value}
use Rattle.sums.proofs.Sums.{sum-one-more}
use Rattle.model.specs.declared.Counts.{Counts}
use Rattle.model.specs.declared.Family.{Family}
use Rattle.model.specs.Counts.{sets, slices_of, [ygs]}
use Rattle.model.specs.Data.{Data}
use Rattle.model.specs.Families.{family, families, family_of, row_boxes, family_count}
use Rattle.model.specs.Standing.{ramps_in}
use Rattle.tables.proofs.Laws.{get_or-map-in}
use Rattle.tables.proofs.Members.{family-box}
use Rattle.duals.specs.declared.Pricing.{Pricing}
use Rattle.tables.specs.Lists.{data_of}
use Rattle.column_terms.specs.declared.Pair.{Pair}
use Rattle.column_terms.specs.Pairs.{no_terms, joined, added, taken, added_if, taken_if, row_multiplier, pair_of, family_sets, RowAt}
use Rattle.column_terms.specs.Ramps.{RampAt, in_ramps}

-- a row's multiplier as its reader asks for it
pub family-set : (k : ℕ) → k < family_count → get_or family_sets k 0 ≡ (family_of k).set
unfolding family_of
family-set k h = get_or-map-in (λ (f : Family). f.set) families (family 0 0 false) 0 k h

pub readable : {c : Counts} {k y i j s : ℕ} → RowAt c k y i j s → Member (row_boxes c) (index k y i j s)
unfolding row_boxes
readable {c} {k} r =
    let e = family-box c r.family in
    let set = family-set k r.family in
    (r.family, rw (e, ← set) r.inside.year, rw (e, ← set) r.inside.first, rw (e, ← set) r.inside.second, rw (e, ← set) r.inside.slice)

pub row_at : {c : Counts} {k y i j s : ℕ} → k < family_count → y < (box_of (sets c) (get_or family_sets k 0)).years
    → i < (box_of (sets c) (get_or family_sets k 0)).firsts → j < (box_of (sets c) (get_or family_sets k 0)).seconds
    → s < (box_of (sets c) (get_or family_sets k 0)).slices → RowAt c k y i j s
row_at h hy hi hj hs = record { family = h; inside = record { year = hy; «first» = hi; second = hj; slice = hs } }

-- a row of a plant's slice, and one that is a ramp
module _ {c : Counts} {y g s : ℕ} (h : (y < c.years) × ((g < c.plants) × (s < slices_of c))) where
  pub plant-row : {k : ℕ} → k < family_count → get_or family_sets k 0 ≡ [ygs] → RowAt c k y g 0 s
  plant-row few e = row_at few (rw e h.0) (rw e h.1.0) (rw e (omega arith)) (rw e h.1.1)

  pub plant-ramp : {k : ℕ} → k < family_count → get_or family_sets k 0 ≡ [ygs] → RampAt c [ygs] k y g s
  plant-ramp few e = record { own = plant-row few e; over = e; slices = refl }

pub pair_is : {u v d e : ℕ} → u ≡ v → d ≡ e → ◌≡◌ {A = Pair} (record { up = cap u; down = cap d }) (record { up = cap v; down = cap e })
pair_is p q = ap₂ (λ (u d : ℕ). record { up = cap u; down = cap d }) p q

-- p holds the terms of the coefficients a and of −b
pub record Priced (c : Counts) (ms : List ℤ) (a b : Linear) (p : Pair) : Type 0 where
  pub is : p ≡ pair_of c ms a b

-- groups of rows, none of them and one more
module _ (c : Counts) (ms : List ℤ) (a b : ℕ → Linear) where
  pub none-summed : {p : Pair} → p ≡ no_terms → p ≡ pair_of c ms (∑ 0 a) (∑ 0 b)
  unfolding no_terms pair_of sum
  none-summed e = e

  pub join-summed : (k : ℕ) {p q r : Pair} → p ≡ pair_of c ms (∑ k a) (∑ k b) → q ≡ pair_of c ms (a k) (b k) → r ≡ joined p q
      → r ≡ pair_of c ms (∑ (k + 1) a) (∑ (k + 1) b)
  unfolding joined pair_of
  join-summed k d e f =
      f ∙ rw (d, e, both-cap, both-cap, sum-one-more, sum-one-more, sum-one-more, sum-one-more) (pair_is (omega arith) (omega arith))

module _ {c : Counts} {ms : List ℤ} where
  pub none-priced : {p : Pair} → p ≡ no_terms → Priced c ms nothing nothing p
  unfolding no_terms pair_of
  none-priced e = record { is = e }

  module _ {a b : Linear} {p : Pair} (h : Priced c ms a b p) where
    pub add-priced : {n : ℕ} {x : Index} {r : Pair} → r ≡ added p n (row_multiplier c ms x) → Priced c ms (a ⊕ n · x) b r
    unfolding added pair_of
    add-priced e = record { is = e ∙ rw (h.is, plus-cap, plus-cap) (pair_is (omega arith) (omega arith)) }

    pub take-priced : {n : ℕ} {x : Index} {r : Pair} → r ≡ taken p n (row_multiplier c ms x) → Priced c ms a (b ⊕ n · x) r
    unfolding taken pair_of
    take-priced e = record { is = e ∙ rw (h.is, plus-cap, plus-cap) (pair_is (omega arith) (omega arith)) }

    pub add-priced-if : (t : Bool) {n : ℕ} {x : Index} {r : Pair} → r ≡ added_if t p n (row_multiplier c ms x) → Priced c ms (a ⊕ when t (n · x)) b r
    unfolding pair_of added_if
    add-priced-if true e = record { is = (add-priced e).is }
    add-priced-if false e = record { is = e ∙ h.is ∙ pair_is (omega arith) (omega arith) }

    pub take-priced-if : (t : Bool) {n : ℕ} {x : Index} {r : Pair} → r ≡ taken_if t p n (row_multiplier c ms x) → Priced c ms a (b ⊕ when t (n · x)) r
    unfolding pair_of taken_if
    take-priced-if true e = record { is = (take-priced e).is }
    take-priced-if false e = record { is = e ∙ h.is ∙ pair_is (omega arith) (omega arith) }

    pub join-priced : {d e : Linear} {q r : Pair} → Priced c ms d e q → r ≡ joined p q → Priced c ms (a ⊕ d) (b ⊕ e) r
    unfolding joined pair_of
    join-priced k e = record { is = e ∙ rw (h.is, k.is, both-cap, both-cap) (pair_is (omega arith) (omega arith)) }

    -- other coefficients of the same sums
    pub priced-as : (d e : Linear) → ((m : Index → ℕ) → value a m ≡ value d m) → ((m : Index → ℕ) → value b m ≡ value e m) → p ≡ pair_of c ms d e
    unfolding pair_of
    priced-as d e f g =
        h.is
        ∙ pair_is (ap₂ (λ (u v : ℕ). u + v) (f (λ r. (row_multiplier c ms r).up)) (g (λ r. (row_multiplier c ms r).down)))
        (ap₂ (λ (u v : ℕ). u + v) (f (λ r. (row_multiplier c ms r).down)) (g (λ r. (row_multiplier c ms r).up)))

-- the ramps that `in_ramps` sums are those in which the model has the columns of a plant's slice
pub ramps-are : (D : Data) {c : Counts} → D.counts ≡ c → (fall rise y g s : ℕ) → in_ramps c fall rise y g s ≡ ramps_in D (fall + 1) (rise + 1) y g s
unfolding in_ramps
ramps-are D e fall rise y g s = rw (← e, add-sub_cancel, add-sub_cancel)

-- the counts of the multipliers are those of the data
pub counts_of : (p : Pricing) → (data_of p.tested.tables.now).counts ≡ p.multipliers.counts
counts_of p = p.tested.tables.now.laid_out.counts ∙ sym p.same_counts
