use borrow.Author.Rules.{rules}
use mathlib.Core.Path.{◌≡◌}
use Rattle.std.proofs.lemmas.Iterator.{serves_from_Range}
use Rattle.sums.specs.Linear.{∑}
use Rattle.column_terms.specs.Pairs.{pair_of}
use Rattle.terms.proofs.Turns.{mapped-done}
use Rattle.column_terms.proofs.Laws.{none-summed, join-summed}
use Rattle.column_terms.proofs.Pair.total.Goals as goal

pub fold-requires-clause-can : goal.fold-requires-clause-can
fold-requires-clause-can g c = (tt, serves_from_Range (λ x q k. search rules) (λ x low high. search rules))

pub returns : goal.returns
returns g c = λ d ms a b h.
    let none = none-summed d ms a b c.none.ensures in
    mapped-done _ _ (λ k p. p.1 ≡ pair_of d ms (∑ k a) (∑ k b)) _ _ c.map.ensures.source c.map.ensures.closure none c.fold.ensures.ran.2 c.fold.ensures.ran.3
    (λ k p q r u l j e w. (search rules, join-summed d ms a b k j (h k q l (search rules)) (search rules)))
