use borrow.Author.Rules.{rules}
use borrow.Author.Tests.{tests}
use Rattle.terms.proofs.plants.zone_sum.Goals as goal

pub returns : goal.returns
returns c = c.plants_sum.ensures _ (λ g b l k. search (rules, tests))
