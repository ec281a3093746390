use borrow.Author.Rules.{rules}
use mathlib.Core.Path.{refl, sym, ap, subst}
use mathlib.Core.Bool.{true, false}
use Prim.Native.Nat.{ℕ, ◌<◌, zero-le}
use native.Mathlib.Omega.{arith}
use lib.ListN.{length, get_or}
use Rattle.std.specs.Prelude.{Option, Some, None, MatchOption}
use Rattle.std.specs.List.{AllWithin, HoldsAt, range_with_len}
use Rattle.std.proofs.lemmas.Iterator.{IsFirst-from_position, YieldsList-from_range, serves_from_Range}
use Rattle.std.proofs.lemmas.List.FromFn.{length-range_with_len, get_or-range_with_len}
use Rattle.sums.proofs.Spans.{upto-stop, upto-passed}
use Rattle.model.specs.Calls.{outcome}
use Rattle.data_tests.proofs.first_refused.Goals as goal

-- the k-th of 0, .., n - 1 is k
module _ (P : ℕ → Type 0) {n k : ℕ} (l : k < n) where
  kth : P (get_or (range_with_len 0 n) k 0) → P k
  kth = subst P (omega (arith, get_or-range_with_len 0 n k 0 l))

-- so the place of the first that is bad is that number
first : (Bad Good : ℕ → Type 0) (n : ℕ) (r : Option ℕ)
    → (let all = range_with_len 0 n in MatchOption r (AllWithin Good all 0 (length all)) (λ i. (i < length all) × HoldsAt Bad all i × AllWithin Good all 0 i))
    → MatchOption r ((k : ℕ) → k < n → Good k) (λ i. (i < n) × Bad i × ((k : ℕ) → k < i → Good k))
first bad good n None h = λ k l. kth good l (h k 0 zero-le (omega (arith, length-range_with_len 0 n)))
first bad good n (Some i) h =
    let below : i < n = omega (arith, h.0, length-range_with_len 0 n) in
    (below, kth bad below (h.1 0), λ k l. kth good (omega (arith, below, l)) (h.2 k 0 zero-le l))

pub position-requires-clause-callable : goal.position-requires-clause-callable
position-requires-clause-callable g c = serves_from_Range (λ x q k. search rules) (λ x low high. search rules)

pub returns-in-Some : goal.returns-in-Some
returns-in-Some g c = λ f h r.
    let bad : ℕ → Type 0 = λ i. goal.P-post g c.args.bad i true in
    let good : ℕ → Type 0 = λ i. goal.P-post g c.args.bad i false in
    let found = IsFirst-from_position _ _ (Some c.in-Some.i) bad good c.in-Some.ensures.ran (YieldsList-from_range 0 c.args.n c.args.n refl (omega arith)) (λ x q k. search rules) (λ x q k. search rules) in
    let p = first bad good c.args.n (Some c.in-Some.i) found in
    sym (ap outcome (upto-stop _ _ f p.0 (upto-passed _ f (λ k l. h k (omega (arith, p.0, l)) (p.2 k l))) (r _ _ p.0 p.1 c.refusal.ensures)))

pub returns : goal.returns
returns g c = λ f h r.
    let bad : ℕ → Type 0 = λ i. goal.P-post g c.args.bad i true in
    let good : ℕ → Type 0 = λ i. goal.P-post g c.args.bad i false in
    let found = IsFirst-from_position _ _ None bad good c.in-None.ensures.ran (YieldsList-from_range 0 c.args.n c.args.n refl (omega arith)) (λ x q k. search rules) (λ x q k. search rules) in
    sym (ap outcome (upto-passed _ f (λ k l. h k l (first bad good c.args.n None found k l))))
