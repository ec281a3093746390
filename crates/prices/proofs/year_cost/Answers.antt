use mathlib.Core.Path.{ap, ◌∙◌}
use lib.ListN.{get_or}
use Rattle.capped.specs.Cap.{cap}
use Rattle.capped.proofs.Laws.{both-cap}
use Rattle.tables.specs.Lists.{data_of, entry_of}
use Rattle.hour_costs.specs.Costs.{yearly_cost}
use Rattle.prices.proofs.Laws.{yearly, year-sum}
use borrow.Author.Rules.{rules}
use Rattle.prices.proofs.year_cost.Goals as goal

pub returns : goal.returns
returns c =
    let case = c.args.case.now in
    let fixed-is = c.total-fixed.ensures (λ k. yearly_cost (data_of case.tables) case.plan.counts (entry_of case.plan) (get_or yearly k 0) c.args.y) (λ i r l e. search rules) in
    c.join.ensures ∙ rw (fixed-is, c.hours_cost.ensures) (both-cap _ _ ∙ ap cap (year-sum _ _ _ _))
