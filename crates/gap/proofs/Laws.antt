-- What the functions of the gap cite: a row's term, the families that are walked, what each of the five loops knows, and the answer.
-- Assumes nothing.
use Rattle.std.specs.Prelude.{Err}
use mathlib.Core.Path.{◌≡◌, refl, sym, ap, ◌∙◌}
use mathlib.Core.Bool.{Bool, true, false, cond, ◌&&◌}
use mathlib.Core.List.{List}
use Prim.Native.Nat.{ℕ, ◌+◌, ◌*◌, ◌-◌, ◌≤◌, ◌<◌, zero-le}
use native.Mathlib.Nat.{add-zero, zero-add, mul-zero, mul_comm, le_antisymm}
use native.Mathlib.Omega.{arith}
use lib.Dec.{leb, ltb}
use lib.IntN.{ℤ, pos}
use lib.ListN.{get_or}
use borrow.Author.Tests.{le-leb, ltb-true}
use Rattle.compared.specs.declared.NoBalance.TheVariants.{Unsure}
use Rattle.capped.specs.Cap.{limit, cap, times, Sum}
use Rattle.compared.specs.Compared.{minus, net_of}
use Rattle.capped.proofs.Laws.{plus-cap, plus-plus, times-cap}
use Rattle.compared.proofs.Laws.{net-cap}
use Rattle.sums.specs.declared.Box.{Box}
use Rattle.sums.specs.Sum.{sum}
use Rattle.sums.specs.Index.{Index, index, box_of, number, Member}
use Rattle.sums.proofs.Sums.{sum-one-more, sum-zero}
use Rattle.model.specs.declared.Counts.{Counts}
use Rattle.model.specs.declared.Refusal.TheVariants.{GapOffScale}
use Rattle.model.specs.Data.{Data}
use Rattle.model.specs.Families.{row_boxes, family_count}
use Rattle.model.specs.Tests.{constant⁺, constant⁻, multiplier, m⁺, m⁻, constants⁺, constants⁻, unless, gap_fault, gap}
use Rattle.model.specs.Calls.{certificate, issued}
use Rattle.constants.specs.declared.Constant.{Constant}
use Rattle.constants.specs.Constants.{constant_of, has_constant, netted_of}
use Rattle.row_constants.proofs.Laws.{without}
use Rattle.duals.specs.declared.Multiplier.{Multiplier}
use Rattle.duals.specs.Multipliers.{multiplier_of}
use Rattle.column_terms.specs.Pairs.{added, taken}
use Rattle.duals.proofs.Laws.{row-kinds}
use Rattle.column_terms.specs.declared.Pair.{Pair}
use Rattle.gap.specs.Signs.{capped, more, with_row, term⁺, term⁻, with_term, terms_of, walked_box, settled}

-- A row's term

sided : (t : Pair) {u v d w : ℕ} → u ≡ v → d ≡ w → ◌≡◌ {A = Pair} (more t u d) (more t v w)
sided t p q = rw (p, q)

-- added as the code adds it, by the sides of the netted constant
pub with_row_is : (t : Pair) (m : Multiplier) (k : Constant) {n : Constant} {s r : Pair} → n ≡ netted_of k → s ≡ added t n.adds m → r ≡ taken s n.takes m → r ≡ with_row t m k
unfolding with_row netted_of added taken
with_row_is t m k e p q = rw (q, p, e, plus-plus t.up _ _, plus-plus t.down _ _) (sided t (omega arith) (omega arith))

-- as the code has its multiplier and its constant
pub term_is : (D : Data) (ms : List ℤ) {c : Counts} (t : Pair) (r : Index) → D.counts ≡ c
    → with_row t (multiplier_of (get_or ms (number (row_boxes c) r) (pos 0))) (constant_of D r) ≡ with_term D ms t r
unfolding with_row with_term term⁺ term⁻ multiplier_of multiplier constant_of constant⁺ constant⁻
term_is D ms t r e = rw (← e)

module _ (D : Data) (ms : List ℤ) {k : ℕ} (l : k < family_count) (h : has_constant k ≡ false) (y i j s : ℕ) where
  abbrev none : (f : Constant → ℕ) → f (record { adds = 0; takes = 0 }) ≡ f (constant_of D (index k y i j s))
  none f = ap f (without D y i j s k l h)

  pub no-term⁺ : term⁺ D ms (index k y i j s) ≡ 0
  unfolding term⁺ constant⁺ constant⁻ constant_of
  no-term⁺ = rw (← none (λ K. K.adds), ← none (λ K. K.takes), mul-zero (m⁺ D ms (index k y i j s)), mul-zero (m⁻ D ms (index k y i j s)))

  pub no-term⁻ : term⁻ D ms (index k y i j s) ≡ 0
  unfolding term⁻ constant⁺ constant⁻ constant_of
  no-term⁻ = rw (← none (λ K. K.adds), ← none (λ K. K.takes), mul-zero (m⁺ D ms (index k y i j s)), mul-zero (m⁻ D ms (index k y i j s)))

-- The sums of a family's terms, from the innermost level outwards

module _ (T : Index → ℕ) (b : Box) (k : ℕ) where
  abbrev pub of_second : ℕ → ℕ → ℕ → ℕ
  of_second y i j = sum b.slices (λ s. T (index k y i j s))

  abbrev pub of_first : ℕ → ℕ → ℕ
  of_first y i = sum b.seconds (λ j. of_second y i j)

  abbrev pub of_year : ℕ → ℕ
  of_year y = sum b.firsts (λ i. of_first y i)

  abbrev pub of_family : ℕ
  of_family = sum b.years (λ y. of_year y)

  pub no-family : ((y i j s : ℕ) → T (index k y i j s) ≡ 0) → of_family ≡ 0
  no-family h = sum-zero _ (λ y p. sum-zero _ (λ i q. sum-zero _ (λ j r. sum-zero _ (λ s t. h y i j s))))

-- The families that are walked

module _ (c : Counts) (k : ℕ) {b : Box} (e : b ≡ walked_box c k) where
  -- a family whose rows have no constant adds nothing
  pub walked-sum : (T : Index → ℕ) → (has_constant k ≡ false → (y i j s : ℕ) → T (index k y i j s) ≡ 0)
      → of_family T (box_of (row_boxes c) k) k ≡ of_family T b k
  unfolding walked_box sum
  walked-sum T z = go (has_constant k) refl
    where
      go : (f : Bool) → has_constant k ≡ f → of_family T (box_of (row_boxes c) k) k ≡ of_family T b k
      go true h = rw (e, h)
      go false h = no-family T (box_of (row_boxes c) k) k (z h) ∙ rw (e, h)

  -- what is walked are rows
  pub walked-member : {y i j s : ℕ} → k < family_count → y < b.years → i < b.firsts → j < b.seconds → s < b.slices → Member (row_boxes c) (index k y i j s)
  unfolding walked_box
  walked-member {y} {i} {j} {s} l hy hi hj hs = go (has_constant k) refl
    where
      go : (f : Bool) → has_constant k ≡ f → Member (row_boxes c) (index k y i j s)
      go true h =
          let own : box_of (row_boxes c) k ≡ b = rw (e, h) in
          (rw (row-kinds c) l, rw own hy, rw own hi, rw own hj, rw own hs)
      go false h = let z : b.years ≡ 0 = rw (e, h) in absurd (omega (arith, z, hy))

-- The loops: after k of n turns whose turn k adds f k above zero and g k below

pub record Adding (f g : ℕ → ℕ) (n : ℕ) (from : Pair) (k : ℕ) (t : Pair) : Type 0 where
  pub within : k ≤ n
  pub is : (u d : ℕ) → from ≡ capped u d → t ≡ capped (u + sum k f) (d + sum k g)

same : {u v d w : ℕ} → u ≡ v → d ≡ w → capped u d ≡ capped v w
same p q = rw (p, q)

pub begin : {f g : ℕ → ℕ} {n : ℕ} {t : Pair} → Adding f g n t 0 t
unfolding sum
begin = record { within = zero-le; is = λ u d e. e ∙ same (sym (add-zero u)) (sym (add-zero d)) }

pub all : {f g : ℕ → ℕ} {n k : ℕ} {from t : Pair} → Adding f g n from k t → n ≤ k → (u d : ℕ) → from ≡ capped u d → t ≡ capped (u + sum n f) (d + sum n g)
all {n = n} {k = k} h l u d e = let q : k ≡ n = le_antisymm h.within l in rw q at (h.is u d e)

module _ {f g : ℕ → ℕ} {n k : ℕ} {from t : Pair} (h : Adding f g n from k t) (l : k < n) where
  pub add : {next : Pair} → next ≡ more t (f k) (g k) → Adding f g n from (k + 1) next
  add q = record {
    within = omega arith;
    is = λ u d e. q ∙ rw (h.is u d e, plus-cap (u + sum k f), plus-cap (d + sum k g)) (same (omega (arith, sum-one-more k f)) (omega (arith, sum-one-more k g)));
  }

  -- a turn that is a loop of its own
  pub turn : {f' g' : ℕ → ℕ} {m i : ℕ} {next : Pair} → Adding f' g' m t i next → m ≤ i → f k ≡ sum m f' → g k ≡ sum m g' → Adding f g n from (k + 1) next
  turn a p q r = record {
    within = omega arith;
    is = λ u d e. all a p (u + sum k f) (d + sum k g) (h.is u d e) ∙ same (omega (arith, q, sum-one-more k f)) (omega (arith, r, sum-one-more k g));
  }

-- the terms of all rows
pub all-terms : (D : Data) (ms : List ℤ) {c : Counts} {from t : Pair} {k : ℕ} → D.counts ≡ c → from ≡ capped 0 0
    → Adding (λ k. of_family (term⁺ D ms) (box_of (row_boxes c) k) k) (λ k. of_family (term⁻ D ms) (box_of (row_boxes c) k) k) family_count from k t → family_count ≤ k
    → t ≡ terms_of D ms
unfolding terms_of constants⁺ constants⁻ term⁺ term⁻ row_boxes
all-terms D ms e z h l =
    all h l 0 0 z ∙ same (zero-add _) (zero-add _)
    ∙ ap (λ (c : Counts). capped (sum family_count (λ k. of_family (term⁺ D ms) (box_of (row_boxes c) k) k)) (sum family_count (λ k. of_family (term⁻ D ms) (box_of (row_boxes c) k) k))) (sym e)

-- The answer

-- a gap below zero counts as 0, as `-` of numbers has it
cut_off : (c m n : ℕ) → settled c (minus m n) ≡ issued c (m - n)
unfolding settled
cut_off c m n = go (ltb m n) refl
  where
    go : (b : Bool) → ltb m n ≡ b → settled c (minus m n) ≡ issued c (m - n)
    go true e = rw e (ap (issued c) (omega (arith, ltb-true m n e)))
    go false e = rw e

pub settled_is : (c a b : ℕ) → c ≤ limit
    → settled c (net_of (cap c) (cap a) (cap b)) ≡ certificate (unless (leb a limit && leb b limit) GapOffScale) c (c + a - b)
unfolding settled unless
settled_is c a b h = rw (net-cap c a b, le-leb c limit h) (go (leb a limit && leb b limit))
  where
    go : (t : Bool) → settled c (cond t (minus (c + a) b) (Err Unsure)) ≡ certificate (unless t GapOffScale) c (c + a - b)
    go true = cut_off c (c + a) b
    go false = refl

pub certified : (D : Data) (ms : List ℤ) (N c : ℕ) {up down : Sum} → c ≤ limit → up ≡ times (cap (constants⁺ D ms)) N → down ≡ times (cap (constants⁻ D ms)) N
    → settled c (net_of (cap c) up down) ≡ certificate (gap_fault D ms N) c (gap D ms N c)
unfolding gap_fault gap
certified D ms N c h p q =
    rw (p, q, times-cap (constants⁺ D ms) N, times-cap (constants⁻ D ms) N, mul_comm (constants⁺ D ms) N, mul_comm (constants⁻ D ms) N)
    (settled_is c (N * constants⁺ D ms) (N * constants⁻ D ms) h)
