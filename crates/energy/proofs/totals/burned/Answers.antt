use borrow.Author.Rules.{rules}
use borrow.Author.Tests.{tests}
use Rattle.energy.proofs.totals.burned.Goals as goal

pub returns : goal.returns
returns c = c.energy_of.ensures _ (λ g b l k. search (rules, tests))
