-- Demand 3, and the gap with nothing cut off: an accepted certificate is a dual solution, and weak duality does the rest.
use Rattle.std.specs.Prelude.{Result, Ok, Err}
use mathlib.Core.Path.{◌≡◌, refl, ap}
use mathlib.Core.Bool.{Bool, true, false}
use mathlib.Core.List.{List}
use Prim.Native.Nat.{ℕ, ◌+◌, ◌*◌, ◌≤◌}
use native.Mathlib.Nat.{mul-le-mul_left}
use native.Mathlib.Omega.{arith}
use lib.Dec.{leb}
use lib.IntN.{ℤ}
use borrow.Author.Tests.{leb-true, eqb-true}
use Rattle.sums.specs.Sum.{on}
use Rattle.sums.specs.Span.{Fault, fine, fault, In, total}
use Rattle.sums.specs.Index.{Index}
use Rattle.sums.specs.Linear.{coefficient}
use Rattle.sums.specs.Duality.{Holds, Signed}
use Rattle.sums.proofs.Spans.{or_else-fine, first_fine}
use Rattle.sums.proofs.Indices.{member-in, in-member}
use Rattle.sums.proofs.Linears.{spread}
use Rattle.sums.proofs.Duality.{weak}
use Rattle.model.specs.declared.Certificate.{Certificate}
use Rattle.model.specs.declared.Refusal.{Refusal}
use Rattle.model.specs.Data.{Data, read}
use Rattle.model.specs.Columns.{columns, column_boxes, entries}
use Rattle.model.specs.Families.{equation, equal, rows, row_boxes}
use Rattle.model.specs.Prices.{price, cost}
use Rattle.model.specs.Tests.{holds, constant⁺, constant⁻, above, below, row_fault, rows_fault, scale_fault, plan_length_fault, plan_fault, multiplier_fault, m⁺, m⁻, most_multiplier, priced⁺, priced⁻, column_fault, constants⁺, constants⁻, gap, multipliers_fault, columns_fault, dual_fault}
use Rattle.model.specs.Calls.{certificate, check_fault, certify_fault, cost_of, gap_of, certify, issued}
use Rattle.model.specs.Rival.{Rival, Bounds, Binds}
use Rattle.model.specs.Claims.{Demand3, WholeGap}
use Rattle.model.proofs.Within.{inside}
use Rattle.model.proofs.Sound.{passed, both}

-- what a row's test and a multiplier's test say
hold : (e : Bool) (lo hi : ℕ) → holds e lo hi ≡ true → Holds e lo hi
hold true lo hi t = eqb-true lo hi t
hold false lo hi t = leb-true lo hi t

signed : (e : Bool) (n k : ℕ) → n ≤ on e k → Signed e n
signed true n k h = tt
signed false n k h = omega arith

module _ (D : Data) where
  row-holds : (N : ℕ) (x : Index → ℕ) (r : Index) → row_fault D N x r ≡ fine → Holds (equal r) (below D N x r) (above D N x r)
  unfolding row_fault
  row-holds N x r e = hold (equal r) (below D N x r) (above D N x r) (passed _ _ (or_else-fine _ _ e).1)

  -- a plan whose rows have no fault meets all the equations
  pub meets-all : (N : ℕ) (x : Index → ℕ) → rows_fault D N x ≡ fine → Rival D N x
  unfolding rows_fault
  meets-all N x e = record { meets = λ r m. row-holds N x r (first_fine (rows D) (row_fault D N x) e r (member-in (row_boxes D.counts) r m)) }

  -- the same over all columns, as weak duality reads it
  over-columns : (M : ℕ) (x : Index → ℕ) → Rival D M x → (r : Index) → In (rows D) r
      → Holds (equal r)
      (total (columns D) (λ c. coefficient (equation D r).negative c * x c) + M * constant⁻ D r)
      (total (columns D) (λ c. coefficient (equation D r).positive c * x c) + M * constant⁺ D r)
  unfolding above below
  over-columns M x h r l =
      let m = in-member (row_boxes D.counts) r l in
      let w = inside D r m in
      rw (spread (column_boxes D.counts) x (equation D r).negative w.1, spread (column_boxes D.counts) x (equation D r).positive w.0) (h.meets r m)

  module _ (ms : List ℤ) (signs : multipliers_fault D ms ≡ fine) (prices : columns_fault D ms ≡ fine) where
    pub sign_of : (r : Index) → In (rows D) r → Signed (equal r) (m⁻ D ms r)
    unfolding multipliers_fault multiplier_fault
    sign_of r l =
        signed (equal r) (m⁻ D ms r) most_multiplier
        (leb-true _ _ (both (leb (m⁺ D ms r) most_multiplier) (leb (m⁻ D ms r) (on (equal r) most_multiplier)) (passed _ _ (first_fine (rows D) (multiplier_fault D ms) signs r l))).1)

    price-of : (c : Index) → In (columns D) c → priced⁺ D ms c ≤ price D c + priced⁻ D ms c
    unfolding columns_fault column_fault
    price-of c l = leb-true _ _ (passed _ _ (or_else-fine _ _ (first_fine (columns D) (column_fault D ms) prices c l)).1)

    -- the bound at scale M, and what it says of the plan itself
    bounded : (M : ℕ) (x : Index → ℕ) → Rival D M x → M * constants⁻ D ms ≤ cost D x + M * constants⁺ D ms
    unfolding constants⁺ constants⁻ priced⁺ priced⁻ cost
    bounded M x h =
        weak (rows D) (columns D) (λ r. coefficient (equation D r).positive) (λ r. coefficient (equation D r).negative) (constant⁺ D) (constant⁻ D)
        (price D) (m⁺ D ms) (m⁻ D ms) equal sign_of price-of M x (over-columns M x h)

    whole : (N : ℕ) (x : Index → ℕ) → Rival D N x → gap D ms N (cost D x) + N * constants⁻ D ms ≡ cost D x + N * constants⁺ D ms
    unfolding gap
    whole N x h = omega (arith, bounded N x h)

    binding : (N : ℕ) (x : Index → ℕ) → Rival D N x → Bounds D N (cost D x) (gap D ms N (cost D x))
    binding N x h M _ z k =
        let bound : M * constants⁻ D ms ≤ cost D z + M * constants⁺ D ms = bounded M z k in
        omega (arith, mul-le-mul_left N bound, ap (λ (v : ℕ). M * v) (whole N x h))

-- an issued certificate: every test passed, and the figures are those of the formulas
-- the cost and the gap in an answer of certify, 0 in a refusal
abbrev cost_in : Result Certificate Refusal → ℕ
cost_in (Ok a) = a.cost
cost_in (Err r) = 0

abbrev gap_in : Result Certificate Refusal → ℕ
gap_in (Ok a) = a.gap
gap_in (Err r) = 0

module _ (l : List ℕ) (N : ℕ) (plan : List ℕ) (ms : List ℤ) where
  abbrev D : Data
  D = read l

  -- what the tests of certify say together
  pub record Passed : Type 0 where
    pub scale-pass : scale_fault N ≡ fine
    pub length-pass : plan_length_fault D plan ≡ fine
    pub rows_pass : rows_fault D N (entries D plan) ≡ fine
    pub signs-pass : multipliers_fault D ms ≡ fine
    pub prices-pass : columns_fault D ms ≡ fine

  passed-all : certify_fault l N plan ms ≡ fine → Passed
  unfolding certify_fault check_fault plan_fault dual_fault
  passed-all e =
      let s = or_else-fine _ _ (or_else-fine _ _ (or_else-fine _ _ e).0).1 in
      let n = or_else-fine _ _ s.1 in
      let d = or_else-fine _ _ (or_else-fine _ _ (or_else-fine _ _ e).1).1 in
      record { scale-pass = s.0; length-pass = n.0; rows_pass = (or_else-fine _ _ n.1).0; signs-pass = d.0; prices-pass = (or_else-fine _ _ d.1).0 }

  certify-binds : (f : Fault Refusal) → certify_fault l N plan ms ≡ f → Binds l N (certificate f (cost_of l plan) (gap_of l N plan ms))
  unfolding cost_of gap_of
  certify-binds fine e =
      let p = passed-all e in
      binding D ms p.signs-pass p.prices-pass N (entries D plan) (meets-all D N (entries D plan) p.rows_pass)
  certify-binds (fault r) e = tt

  -- what an answered cost and gap say: every test passed, and they are the figures of the formulas
  pub record Answered (c g : ℕ) : Type 0 where
    pub tests : Passed
    pub cost-is : cost_of l plan ≡ c
    pub gap_is : gap_of l N plan ms ≡ g

  certify-answered : (f : Fault Refusal) → certify_fault l N plan ms ≡ f → (c g : ℕ) → certificate f (cost_of l plan) (gap_of l N plan ms) ≡ issued c g → Answered c g
  certify-answered fine e c g h = record { tests = passed-all e; cost-is = ap cost_in h; gap_is = ap gap_in h }
  certify-answered (fault r) e c g h = let z : ◌≡◌ {A = ℕ} 0 1 = cc in absurd (omega arith)

  pub answered : {c g : ℕ} → certify l N plan ms ≡ issued c g → Answered c g
  unfolding certify
  answered {c} {g} h = certify-answered (certify_fault l N plan ms) refl c g h

pub demand3 : Demand3
unfolding certify
demand3 l N plan ms = certify-binds l N plan ms (certify_fault l N plan ms) refl

pub whole-gap : WholeGap
unfolding cost_of gap_of
whole-gap l N plan ms c g h =
    let a = answered l N plan ms h in
    let p = a.tests in
    rw (← a.gap_is, ← a.cost-is)
    (whole (read l) ms p.signs-pass p.prices-pass N (entries (read l) plan) (meets-all (read l) N (entries (read l) plan) p.rows_pass))
