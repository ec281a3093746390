-- Index sets, starts and places: what the readers of entries cite. Assumes nothing.
use mathlib.Core.Path.{◌≡◌, refl, sym, ap, ◌∙◌, subst}
use mathlib.Core.Bool.{Bool, true, false, ◌&&◌, ◌||◌}
use mathlib.Core.Logic.{⊎_elim}
use mathlib.Core.List.{List, [], ◌∷◌, map}
use Prim.Native.Nat.{ℕ, zero, suc, ◌+◌, ◌*◌, ◌^◌, ◌≤◌, ◌<◌, zero-le}
use native.Mathlib.Nat.{mul-le-mul, lt_of_le_of_lt, eq-or-lt_of_le}
use native.Mathlib.Omega.{arith}
use lib.Dec.{T, ltb, eqb, lit<}
use lib.ListN.{length, get_or, set, length-map}
use lib.Seq.{get_or-set_same, get_or-set_other}
use borrow.Author.Count.{below_more}
use borrow.Author.Tests.{ne_eqb}
use mir.Syntax.{w64}
use mir.Val.{Fits}
use Rattle.sums.specs.declared.Box.{Box}
use Rattle.sums.specs.Index.{index, box, box_of, volume, inside, start, count, number, Member}
use Rattle.sums.proofs.Sums.{sum-cong, sum-one-more}
use Rattle.sums.proofs.Lists.{Alls}
use Rattle.sums.proofs.Numbering.{number_bound}
use Rattle.model.specs.declared.Counts.{Counts}
use Rattle.model.specs.Counts.{sets, slices_of}
use Rattle.model.specs.Data.{table_boxes, place_of, data_length, read, table_count}
use Rattle.model.specs.Columns.{column_sets, column_boxes, column_kind_count}
use Rattle.model.specs.declared.Family.{Family}
use Rattle.model.specs.Families.{families}
use Rattle.tables.specs.Layout.{Counted, Small, Inside, TablesAt, ColumnsAt, EntryAt, start_from, table_sets, plan_entry}

-- a product of two numbers with known bounds fits; antt computes the test on the bounds
pub small : (A B : ℕ) {a b : ℕ} → T (ltb (A * B) (2 ^ 64)) → a ≤ A → b ≤ B → Fits w64 (a * b)
small A B t h k = record { fits = lt_of_le_of_lt (mul-le-mul h k) (lit< t) }

-- x is none of 0, .., n - 1: what the last arm of a `match` knows
abbrev pub NoneOf : ℕ → ℕ → Type 0
NoneOf zero x = Unit {0}
NoneOf (suc n) x = NoneOf n x × (x ≡ n → ⊥)

pub none_of : (n : ℕ) {x : ℕ} → NoneOf n x → n ≤ x
none_of zero h = zero-le
none_of (suc n) h = ⊎_elim (λ e. absurd (h.1 (sym e))) (λ l. l) (eq-or-lt_of_le (none_of n h.0))

-- so of numbers below n + 1 it is n: the key of the last arm
pub last_arm : (n : ℕ) {x : ℕ} → x < n + 1 → NoneOf n x → x ≡ n
last_arm n l h = let m = none_of n h in omega arith

-- k is one of some keys
abbrev pub among : List ℕ → ℕ → Bool
among [] k = false
among (a ∷ l) k = eqb k a || among l k

-- k is none of them, as the last arm of a `match` over the keys knows it
abbrev pub NoneAmong : Type 0 → List ℕ → ℕ → Type 0
NoneAmong R [] k = R
NoneAmong R (a ∷ l) k = NoneAmong (R × (k ≡ a → ⊥)) l k

pub none-among : {R : Type 0} (k : ℕ) (l : List ℕ) → NoneAmong R l k → R × (among l k ≡ false)
none-among k [] h = (h, refl)
none-among k (a ∷ l) h = let t = none-among k l h in (t.0.0, rw (ne_eqb k a t.0.1, t.1))

module _ {A : Type 0} where
  -- what holds of each entry of a list and of the default holds at any place
  pub at-any : (P : A → Type 0) (l : List A) (d : A) → Alls (λ k. P) l → P d → (k : ℕ) → P (get_or l k d)
  at-any P [] d h e k = e
  at-any P (a ∷ t) d h e zero = h.0
  at-any P (a ∷ t) d h e (suc k) = at-any P t d h.1 e k

  -- inside the list the defaults do not matter
  pub get_or-map-in : {B : Type 0} (f : A → B) (l : List A) (a : A) (b : B) (k : ℕ) → k < length l → get_or (map f l) k b ≡ f (get_or l k a)
  get_or-map-in f [] a b k h = absurd (omega arith)
  get_or-map-in f (x ∷ t) a b zero h = refl
  get_or-map-in f (x ∷ t) a b (suc k) h = get_or-map-in f t a b k (omega arith)

-- what holds below k holds below k + 1 once the value at k is stored
pub stored : (l : List ℕ) (f : ℕ → ℕ) {k v : ℕ} → k < length l → ((i : ℕ) → i < k → get_or l i 0 ≡ f i) → v ≡ f k
    → (i : ℕ) → i < k + 1 → get_or (set l k v) i 0 ≡ f i
stored l f {k} {v} h below e =
    below_more (λ i. get_or (set l k v) i 0 ≡ f i) k (λ i g. get_or-set_other l k i v 0 (omega arith) ∙ below i g) (get_or-set_same l k v 0 h ∙ e)

-- The index sets

-- every table, kind of column and family has one of their codes, so the last arm of `box_of` is never reached
abbrev all_below : ℕ → List ℕ → Bool
all_below n [] = true
all_below n (k ∷ ks) = ltb k n && all_below n ks

pub known-codes : (c : Counts)
    → (all_below (length (sets c)) table_sets && (all_below (length (sets c)) column_sets && all_below (length (sets c)) (map (λ (f : Family). f.set) families))) ≡ true
known-codes c = refl

module _ {c : Counts} (few : Counted c) where
  pub few-slices : slices_of c ≤ 384
  few-slices = mul-le-mul (mul-le-mul few.few_seasons few.few_days) few.few_hours

  -- every index set is small
  pub small-set : (k : ℕ) → Small (box_of (sets c) k)
  small-set k =
      let s = few-slices in
      let none = box 0 0 0 0 in
      record {
        few_years = at-any (λ b. b.years ≤ 10) (sets c) none (omega arith) (omega arith) k;
        few_firsts = at-any (λ b. b.firsts ≤ 32) (sets c) none (omega arith) (omega arith) k;
        few_seconds = at-any (λ b. b.seconds ≤ 8) (sets c) none (omega arith) (omega arith) k;
        few_slices = at-any (λ b. b.slices ≤ 384) (sets c) none (omega arith) (omega arith) k;
      }

  -- an arm of the `match` on an index set's code
  pub boxed : {b : Box} {set : ℕ} (k : ℕ) → set ≡ k → b ≡ box_of (sets c) k → (b ≡ box_of (sets c) set) × Small b
  boxed {b} {set} k e q = (rw e q, subst Small (sym q) (small-set k))

-- the steps to a member's number fit: its indices are small with their set
pub few_inside : {c : Counts} {b : Box} {k y i j s : ℕ} → Counted c × Inside c k y i j s → Small b
    → (y * b.firsts + i ≤ 352) × ((y * b.firsts + i) * b.seconds + j ≤ 2824) × (inside b y i j s ≤ 1084800)
few_inside {b} {k} {y} {i} {j} {s} m h =
    let f = small-set m.0 k in
    let n = m.1 in
    let hy : y ≤ 10 = omega arith in
    let p : y * b.firsts + i ≤ 352 = omega (arith, mul-le-mul hy h.few_firsts) in
    let q : (y * b.firsts + i) * b.seconds + j ≤ 2824 = omega (arith, mul-le-mul p h.few_seconds) in
    (p, q, omega (arith, mul-le-mul q h.few_slices))

-- The starts and places of any list of index sets

module _ (c : Counts) (kinds : List ℕ) where
  abbrev boxes : List Box
  boxes = map (λ k. box_of (sets c) k) kinds

  pub box-at : (i : ℕ) → i < length kinds → box_of boxes i ≡ box_of (sets c) (get_or kinds i 0)
  box-at i h = get_or-map-in (λ k. box_of (sets c) k) kinds 0 (box 0 0 0 0) i h

  pub start-at : (from t : ℕ) → t ≤ length kinds → start_from c kinds from t ≡ from + start boxes t
  start-at from t h = ap (λ (v : ℕ). from + v) (sum-cong t (λ i l. ap (λ (b : Box). volume b) (sym (box-at i (omega arith)))))

  -- one start more, as the loop makes it
  pub start-more : (from k : ℕ) {next size : ℕ} → next ≡ start_from c kinds from k → size ≡ volume (box_of (sets c) (get_or kinds k 0))
      → next + size ≡ start_from c kinds from (k + 1)
  start-more from k e q = omega (arith, e, q, sum-one-more k (λ i. volume (box_of (sets c) (get_or kinds i 0))))

  module _ (from t k y i j s : ℕ) (l : t < length kinds) (e : get_or kinds t 0 ≡ k) (m : Inside c k y i j s) where
    box-is : box_of boxes t ≡ box_of (sets c) k
    box-is = box-at t l ∙ ap (λ (v : ℕ). box_of (sets c) v) e

    place_is : start_from c kinds from t + inside (box_of (sets c) k) y i j s ≡ from + number boxes (index t y i j s)
    place_is = omega (arith, start-at from t (omega arith), ap (λ (b : Box). inside b y i j s) box-is)

    placed : start_from c kinds from t + inside (box_of (sets c) k) y i j s < from + count boxes
    placed =
        let member : Member boxes (index t y i j s) = (rw length-map l, rw box-is m.year, rw box-is m.first, rw box-is m.second, rw box-is m.slice) in
        omega (arith, place_is, number_bound boxes (index t y i j s) member)

-- after the last table the list ends: the lengths that refusals 2 and 5 test

pub tables_end : (c : Counts) → start_from c table_sets 7 table_count ≡ data_length c
unfolding data_length table_boxes
tables_end c = start-at c table_sets 7 table_count (omega arith)

pub columns-end : (c : Counts) → start_from c column_sets 0 column_kind_count ≡ count (column_boxes c)
unfolding column_boxes
columns-end c = omega (arith, start-at c column_sets 0 column_kind_count (omega arith))

-- The two laws that each reader cites, for the data and for the plan

module _ {l starts : List ℕ} {c : Counts} (at : TablesAt l starts c) {t k y i j s : ℕ} (m : EntryAt table_sets c t k y i j s) where
  abbrev pub entry_place : ℕ
  entry_place = get_or starts t 0 + inside (box_of (sets c) k) y i j s

  pub entry-below : entry_place < length l
  unfolding data_length table_boxes
  entry-below = omega (arith, at.starts t (omega arith), at.whole, placed c table_sets 7 t k y i j s m.table m.set m.inside)

  pub entry-place : entry_place ≡ place_of (read l).counts (index t y i j s)
  unfolding place_of table_boxes
  entry-place =
      omega (
        arith,
        at.starts t (omega arith),
        place_is c table_sets 7 t k y i j s m.table m.set m.inside,
        ap (λ (d : Counts). place_of d (index t y i j s)) at.counts,
      )

  pub entry-is : get_or l entry_place 0 ≡ (read l).entry t y i j s
  unfolding read
  entry-is = ap (λ (n : ℕ). get_or l n 0) entry-place

module _ {plan starts : List ℕ} {c : Counts} (at : ColumnsAt plan starts c) {t k y i j s : ℕ} (m : EntryAt column_sets c t k y i j s) where
  abbrev pub column_place : ℕ
  column_place = get_or starts t 0 + inside (box_of (sets c) k) y i j s

  pub column-below : column_place < length plan
  unfolding column_boxes
  column-below = omega (arith, at.starts t (omega arith), at.whole, placed c column_sets 0 t k y i j s m.table m.set m.inside)

  pub column-is : get_or plan column_place 0 ≡ plan_entry c plan (index t y i j s)
  unfolding column_boxes
  column-is =
      ap (λ (n : ℕ). get_or plan n 0)
      (omega (arith, at.starts t (omega arith), place_is c column_sets 0 t k y i j s m.table m.set m.inside))
