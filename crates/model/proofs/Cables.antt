-- What the rows of families 26 to 28 say of every plan that meets them, and what the lines of a pair cost.
use mathlib.Core.Path.{◌≡◌, sym, ap, ap₂, ◌∙◌, refl}
use mathlib.Core.Bool.{Bool}
use mathlib.Core.List.{List}
use mathlib.Core.Logic.{⊎_elim}
use Prim.Native.Nat.{ℕ, zero, suc, ◌+◌, ◌*◌, ◌-◌, ◌≤◌, ◌<◌}
use native.Mathlib.Nat.{mul-zero}
use native.Mathlib.Omega.{arith}
use lib.Dec.{ltb}
use borrow.Author.Tests.{lt-ltb, le-ltb, eq-eqb}
use Rattle.capped.proofs.Laws.{le-or-lt}
use Rattle.sums.specs.Sum.{sum, on}
use Rattle.sums.specs.Span.{fine}
use Rattle.sums.specs.Index.{Index}
use Rattle.sums.proofs.Sums.{sum-cong, sum-prefix, sum-one-more}
use Rattle.sums.proofs.Tests.{on-false, on-true}
use Rattle.model.specs.Data.{Data, read, table_boxes, either, ◌to◌, most32, line_limit, line_annuity, Z, Y}
use Rattle.model.specs.Columns.{built_lines, total_lines}
use Rattle.model.specs.Families.{row, equation, family_of, row_boxes}
use Rattle.model.specs.Tests.{above, below, constant⁺, constant⁻, data_fault}
use Rattle.model.specs.Prices.{year_weight, price}
use Rattle.model.specs.Rival.{Rival}
use Rattle.model.specs.Claims.{LinesBuilt, LinesAlike, LinesLimited, NoLineWithin, PairPaysOnce}
use Rattle.model.proofs.Sound.{entry-range, passed-entries}

module _ (D : Data) (M : ℕ) (x : Index → ℕ) (plan : Rival D M x) (z w : ℕ) (hz : z < Z D) (hw : w < Z D) where
  -- 26
  balance-row : (y : ℕ) → y < Y D → x (total_lines y z w) ≡ on (ltb 0 y) (1 * x (total_lines (y - 1) z w)) + x (built_lines y z w)
  unfolding equation family_of row_boxes above below constant⁺ constant⁻
  balance-row y hy = omega (arith, plan.meets (row 26 y z w 0) (omega arith, hy, hz, hw, omega arith))

  -- 27
  limit-row : sum (Y D) (λ y. 1 * x (built_lines y z w)) ≤ M * line_limit D z w
  unfolding equation family_of row_boxes above below constant⁺ constant⁻
  limit-row =
      let k : constant⁺ D (row 27 0 z w 0) ≡ line_limit D z w = omega arith in
      omega (arith, plan.meets (row 27 0 z w 0) (omega arith, omega arith, hz, hw, omega arith), ap (λ (v : ℕ). M * v) k)

  -- 28
  both-ways-row : (y : ℕ) → y < Y D → on (ltb z w) (1 * x (total_lines y w z)) ≡ on (ltb z w) (1 * x (total_lines y z w))
  unfolding equation family_of row_boxes above below constant⁺ constant⁻
  both-ways-row y hy = omega (arith, plan.meets (row 28 y z w 0) (omega arith, hy, hz, hw, omega arith))

  built-up : (y : ℕ) → y < Y D → x (total_lines y z w) ≡ sum (y + 1) (λ v. x (built_lines v z w))
  unfolding sum
  built-up zero hy = omega (arith, balance-row 0 hy)
  built-up (suc y) hy =
      let before : suc y - 1 ≡ y = omega arith in
      let next : y + 1 ≡ suc y = omega arith in
      omega (
        arith,
        balance-row (suc y) hy,
        on-true (ltb 0 (suc y)) (1 * x (total_lines (suc y - 1) z w)) (lt-ltb 0 (suc y) (omega arith)),
        ap (λ (v : ℕ). x (total_lines v z w)) before,
        built-up y (omega arith),
        ap (λ (n : ℕ). sum n (λ v. x (built_lines v z w))) next,
        sum-one-more (suc y) (λ v. x (built_lines v z w)),
      )

pub lines-built : LinesBuilt
lines-built D M x plan y z w hy hz hw = built-up D M x plan z w hz hw y hy

-- from the lower zone the row says it, from the higher one that of the other direction
from-lower : (D : Data) (M : ℕ) (x : Index → ℕ) → Rival D M x → (y z w : ℕ) → y < Y D → z < Z D → w < Z D → z < w
    → x (total_lines y z w) ≡ x (total_lines y w z)
from-lower D M x plan y z w hy hz hw h =
    let e = lt-ltb z w h in
    omega (arith, both-ways-row D M x plan z w hz hw y hy, on-true (ltb z w) (1 * x (total_lines y w z)) e, on-true (ltb z w) (1 * x (total_lines y z w)) e)

pub lines-alike : LinesAlike
lines-alike D M x plan y z w hy hz hw =
    ⊎_elim (λ (h : z ≤ w).
    ⊎_elim (λ (k : w ≤ z). let e : z ≡ w = omega arith in ap₂ (λ (a b : ℕ). x (total_lines y a b)) e (sym e))
    (from-lower D M x plan y z w hy hz hw) (le-or-lt w z))
    (λ (h : w < z). sym (from-lower D M x plan y w z hy hw hz h)) (le-or-lt z w)

pub lines-limited : LinesLimited
lines-limited D M x plan y z w hy hz hw =
    omega (
      arith,
      lines-built D M x plan y z w hy hz hw,
      sum-prefix (y + 1) (Y D) (λ v. x (built_lines v z w)) (omega arith),
      sum-cong (Y D) {f = λ v. 1 * x (built_lines v z w)} {g = λ v. x (built_lines v z w)} (λ _ _. omega arith),
      limit-row D M x plan z w hz hw,
    )

-- data that pass the tests have line limit 0 within one zone
none_within : (l : List ℕ) → data_fault l ≡ fine → (z : ℕ) → z < Z (read l) → line_limit (read l) z z ≡ 0
unfolding table_boxes
none_within l e z hz =
    omega (arith, (entry-range (read l) (passed-entries l e) 45 0 z z 0 (omega arith, omega arith, hz, hz, omega arith)).1, ap (λ (b : Bool). (either b (0 to 0) (0 to most32)).most) (eq-eqb z z refl))

pub no-line-within : NoLineWithin
no-line-within l e M x plan y z hy hz =
    let none : M * line_limit (read l) z z ≡ 0 = ap (λ (v : ℕ). M * v) (none_within l e z hz) ∙ mul-zero M in
    record {
      no_built = omega (arith, none, limit-row (read l) M x plan z z hz hz, sum-one-more y (λ v. 1 * x (built_lines v z z)), sum-prefix (y + 1) (Y (read l)) (λ v. 1 * x (built_lines v z z)) (omega arith));
      no_total = omega (arith, none, lines-limited (read l) M x plan y z z hy hz hz);
    }

pub pair-pays-once : PairPaysOnce
unfolding price
pair-pays-once D x y z w h =
    omega (
      arith,
      ap (λ (v : ℕ). year_weight D y * v * x (total_lines y z w)) (on-true (ltb z w) (line_annuity D z w) (lt-ltb z w h)),
      ap (λ (v : ℕ). year_weight D y * v * x (total_lines y w z)) (on-false (ltb w z) (line_annuity D w z) (le-ltb w z (omega arith))),
    )
