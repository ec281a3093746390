-- What (21) counts of a link: the lowest of its season limits. The row beside the earlier one, which added them up.
use mathlib.Core.Path.{◌≡◌, refl, sym, ap, ◌∙◌}
use mathlib.Core.Bool.{Bool, true, false, not, cond}
use mathlib.Core.List.{List}
use Prim.Native.Nat.{ℕ, ◌+◌, ◌*◌, ◌-◌, ◌≤◌}
use native.Mathlib.Nat.{mul-le-mul_left}
use native.Mathlib.Omega.{arith}
use lib.Dec.{eqb}
use lib.IntN.{ℤ}
use borrow.Author.Tests.{eqb-true}
use Rattle.sums.specs.Sum.{sum, on}
use Rattle.sums.specs.Span.{In}
use Rattle.sums.specs.Index.{Index, index}
use Rattle.sums.specs.Duality.{Holds, Signed}
use Rattle.sums.proofs.Sums.{sum-cong, sum_mono, sum-single}
use Rattle.sums.proofs.Spans.{total-add, total_mono}
use Rattle.sums.proofs.Tests.{on-mono}
use Rattle.sums.proofs.Least.{least-lower, least-reached, least-one, least-below-sum}
use Rattle.model.specs.Data.{Data, read, tl, lowest_limit, Z, Q}
use Rattle.model.specs.Families.{Equation, row, equation, equal, family_of, rows, others_sum}
use Rattle.model.specs.Earlier.{earlier_firm, earlier_equation}
use Rattle.model.specs.Tests.{above, below, constant⁺, constant⁻, m⁺, m⁻, constants⁺, constants⁻}
use Rattle.model.specs.Claims.{LinkShares, Met, AsksNoLess, MeetsEarlier, OneSeason, GapNoLarger, earlier_constants⁺, earlier_constants⁻}
use Rattle.model.proofs.Sound.{one-constant}
use Rattle.model.proofs.Demand.{sign_of, answered, whole-gap}

pub link-shares : (D : Data) (y z : ℕ) → LinkShares D y z
unfolding equation
link-shares D y z = record {
  counted = refl;
  lowest = λ u q l. least-lower (Q D) (tl D y u z) q l;
  reached = λ u l. least-reached (Q D) (tl D y u z) l;
}

-- the links of (21) count for no more than with all their seasons added up
links-no-more : (D : Data) (y z : ℕ) → others_sum D z (λ u. lowest_limit D y u z) ≤ others_sum D z (λ u. sum (Q D) (λ q. tl D y u z q))
links-no-more D y z = sum_mono (Z D) (λ u _. on-mono (not (eqb u z)) (least-below-sum (Q D) (tl D y u z)))

-- a row that holds is met: what its constant adds and takes off may stand apart
met-now : (D : Data) (M : ℕ) (x : Index → ℕ) (r : Index) → Holds (equal r) (below D M x r) (above D M x r) → Met (equal r) (equation D r) M x
unfolding above below
met-now D M x r = go (equal r)
  where
    net : M * (constant⁺ D r + (equation D r).minus) ≡ M * (constant⁻ D r + (equation D r).plus)
    net = ap (λ (v : ℕ). M * v) (one-constant D r).net

    go : (e : Bool) → Holds e (below D M x r) (above D M x r) → Met e (equation D r) M x
    go true h = omega (arith, h, net)
    go false h = omega (arith, h, net)

pub asks-no-less : (D : Data) (y z : ℕ) → AsksNoLess D y z
unfolding equation family_of
asks-no-less D y z = record {
  positive = refl;
  negative = refl;
  links = mul-le-mul_left 1000 (links-no-more D y z);
  asked = refl;
  met = λ M x h. omega (arith, met-now D M x (row 4 y z 0 0) h, mul-le-mul_left M (mul-le-mul_left 1000 (links-no-more D y z)));
}

-- what is so of (21) and its earlier row, and of every row beside itself, is so of every row and its earlier one
by-family : (D : Data) (P : Index → Equation → Type 0) → ((y z j s : ℕ) → P (index 3 y z j s) (earlier_firm D y z))
    → ((r : Index) → P r (equation D r)) → (r : Index) → P r (earlier_equation D r)
by-family D P firm others (index k y i j s) = go (eqb k 3) refl
  where
    go : (b : Bool) → eqb k 3 ≡ b → P (index k y i j s) (cond b (earlier_firm D y i) (equation D (index k y i j s)))
    go true e = rw (eqb-true k 3 e) (firm y i j s)
    go false e = others (index k y i j s)

pub meets-earlier : MeetsEarlier
unfolding equation above below constant⁺ constant⁻
meets-earlier D M x plan r m =
    by-family D (λ r f. Holds (equal r) (below D M x r) (above D M x r) → Met (equal r) f M x)
    (λ y z _ _. (asks-no-less D y z).met M x) (met-now D M x) r (plan.meets r m)

-- the least of one limit, and its sum, are that limit
one-limit : (D : Data) (y u z : ℕ) → Q D ≡ 1 → lowest_limit D y u z ≡ sum (Q D) (λ q. tl D y u z q)
one-limit D y u z e = rw e (least-one (tl D y u z) ∙ sym (sum-single (tl D y u z)))

firm-of-one : (D : Data) → Q D ≡ 1 → (y z j s : ℕ) → equation D (index 3 y z j s) ≡ earlier_firm D y z
unfolding equation
firm-of-one D e y z j s =
    ap (λ (v : ℕ). record { positive = (earlier_firm D y z).positive; negative = (earlier_firm D y z).negative; plus = 1000 * v; minus = (earlier_firm D y z).minus })
    (sum-cong (Z D) (λ u _. ap (on (not (eqb u z))) (one-limit D y u z e)))

pub one-season : OneSeason
one-season D e = by-family D (λ r f. equation D r ≡ f) (firm-of-one D e) (λ r. refl)

-- Old multipliers

-- with a multiplier of p above zero or n below, the term m·k of a row, of the one of now and of the earlier one: the first is at most the second
abbrev NoMore : ℕ → ℕ → Equation → Equation → Type 0
NoMore p n now earlier =
    p * (now.plus - now.minus) + n * (now.minus - now.plus) + (p * (earlier.minus - earlier.plus) + n * (earlier.plus - earlier.minus))
    ≤ p * (earlier.plus - earlier.minus) + n * (earlier.minus - earlier.plus) + (p * (now.minus - now.plus) + n * (now.plus - now.minus))

-- in family 4 no multiplier is below zero
firm-no-more : (D : Data) (p n y z j s : ℕ) → Signed (equal (index 3 y z j s)) n → NoMore p n (equation D (index 3 y z j s)) (earlier_firm D y z)
unfolding equation family_of
firm-no-more D p n y z j s none =
    let links = (asks-no-less D y z).links in
    let now = equation D (row 4 y z 0 0) in
    let earlier = earlier_firm D y z in
    let net : (now.plus - now.minus) + (earlier.minus - earlier.plus) ≤ (earlier.plus - earlier.minus) + (now.minus - now.plus) = omega arith in
    rw none (omega (arith, mul-le-mul_left p net))

row-no-more : (D : Data) (p n : ℕ) (r : Index) → Signed (equal r) n → NoMore p n (equation D r) (earlier_equation D r)
row-no-more D p n = by-family D (λ r f. Signed (equal r) n → NoMore p n (equation D r) f) (firm-no-more D p n) (λ r _. omega arith)

constants-no-more : (D : Data) (ms : List ℤ) → ((r : Index) → In (rows D) r → Signed (equal r) (m⁻ D ms r))
    → constants⁺ D ms + earlier_constants⁻ D ms ≤ earlier_constants⁺ D ms + constants⁻ D ms
unfolding constants⁺ constants⁻ constant⁺ constant⁻
constants-no-more D ms sign =
    rw (← total-add (rows D), ← total-add (rows D)) (total_mono (rows D) (λ r h. row-no-more D (m⁺ D ms r) (m⁻ D ms r) r (sign r h)))

pub gap-no-larger : GapNoLarger
gap-no-larger l N plan ms c g issued earlier formula =
    let p = (answered l N plan ms issued).tests in
    omega (
      arith,
      formula,
      whole-gap l N plan ms c g issued,
      mul-le-mul_left N (constants-no-more (read l) ms (sign_of (read l) ms p.signs-pass p.prices-pass)),
    )
