use borrow.Author.Rules.{rules}
use mathlib.Core.Path.{◌≡◌, ◌∙◌, refl}
use Prim.Native.Nat.{◌*◌, ◌≤◌}
use native.Mathlib.Omega.{arith}
use Rattle.std.proofs.iter.runs.Made.{runs_from_along}
use Rattle.std.proofs.lemmas.Iterator.{serves_from_Range}
use Rattle.model.specs.Data.{most32}
use Rattle.sums.specs.Sum.{sum}
use Rattle.sums.proofs.Sums.{sum-one-more}
use Rattle.terms.proofs.Turns.{mapped-along, mapped-done, added}
use Rattle.terms.proofs.totals.exact_total.Goals as goal

pub sum-requires-clause-can : goal.sum-requires-clause-can
sum-requires-clause-can g c = (tt, serves_from_Range (λ x q k. search rules) (λ x low high. search rules))

pub sum-requires-clause-fits : goal.sum-requires-clause-fits
sum-requires-clause-fits g c = runs_from_along _ _ _ (λ xs t y.
    let h = mapped-along _ _ (λ k v. v ≤ k * most32) xs _ c.map.ensures.source c.map.ensures.closure (omega arith) t y (added xs 0)
    (λ k v b w u l j e r. (search rules, omega (arith, j, r, c.requires.small k b l (search rules)))) in
    omega (arith, h.1, h.2, c.requires.few))

pub returns-clause-value : goal.returns-clause-value
unfolding sum
returns-clause-value g c = λ f h.
    c.sum.ensures.ran.2 ∙ mapped-done _ _ (λ k v. v ≡ sum k f) _ _ c.map.ensures.source c.map.ensures.closure refl (c.sum.ensures.ran.1 tt) (added _ 0)
    (λ k v b w u l j e r. (search rules, r ∙ rw (j, h k b l (search rules), sum-one-more)))

pub returns-clause-bound : goal.returns-clause-bound
returns-clause-bound g c =
    let h = mapped-done _ _ (λ k v. v ≤ k * most32) _ _ c.map.ensures.source c.map.ensures.closure (omega arith) (c.sum.ensures.ran.1 tt) (added _ 0)
    (λ k v b w u l j e r. (search rules, omega (arith, j, r, c.requires.small k b l (search rules)))) in
    omega (arith, h, c.sum.ensures.ran.2)
