use borrow.Author.Rules.{rules}
use mathlib.Core.Path.{◌≡◌, ◌∙◌}
use Prim.Native.Nat.{ℕ, ◌+◌}
use Rattle.std.proofs.lemmas.Iterator.{serves_from_Range}
use Rattle.capped.specs.Cap.{cap, both, Sum}
use Rattle.capped.proofs.Laws.{both-cap}
use Rattle.sums.specs.Sum.{sum}
use Rattle.sums.proofs.Sums.{sum-one-more}
use Rattle.terms.proofs.Turns.{mapped-done}
use Rattle.terms.proofs.totals.total.Goals as goal

pub fold-requires-clause-can : goal.fold-requires-clause-can
fold-requires-clause-can g c = (tt, serves_from_Range (λ x q k. search rules) (λ x low high. search rules))

joined : (k : ℕ) {a b r : Sum} (f : ℕ → ℕ) → a ≡ cap (sum k f) → b ≡ cap (f k) → r ≡ both a b → r ≡ cap (sum (k + 1) f)
joined k f p q e = e ∙ rw (p, q, both-cap, sum-one-more)

pub returns : goal.returns
unfolding sum
returns g c = λ f h.
    mapped-done _ _ (λ k p. p.1 ≡ cap (sum k f)) _ _ c.map.ensures.source c.map.ensures.closure c.zero.ensures c.fold.ensures.ran.2 c.fold.ensures.ran.3
    (λ k p b q u l j e r. (search rules, joined k f j (h k b l (search rules)) (search rules)))
