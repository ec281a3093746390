use mathlib.Core.Path.{ap, ◌∙◌}
use lib.ListN.{get_or}
use Rattle.capped.specs.Cap.{cap}
use Rattle.tables.specs.Lists.{data_of, entry_of}
use Rattle.hour_costs.specs.Costs.{hourly_cost}
use Rattle.hour_costs.proofs.Laws.{hourly, hours-sum}
use borrow.Author.Rules.{rules}
use Rattle.hour_costs.proofs.hours_cost.Goals as goal

pub returns : goal.returns
returns c =
    let case = c.args.case.now in
    c.total.ensures (λ k. hourly_cost (data_of case.tables) case.plan.counts (entry_of case.plan) (get_or hourly k 0) c.args.y) (λ i r l e. search rules)
    ∙ ap cap (hours-sum _ _ _ _)
