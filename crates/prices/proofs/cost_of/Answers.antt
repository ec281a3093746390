use mathlib.Core.Path.{◌∙◌, sym, ap}
use Rattle.capped.specs.Cap.{cap}
use Rattle.tables.specs.Lists.{data_of, entry_of}
use Rattle.hour_costs.specs.Costs.{year_cost}
use Rattle.prices.proofs.Laws.{cost-by-year}
use borrow.Author.Rules.{rules}
use Rattle.prices.proofs.cost_of.Goals as goal

pub returns : goal.returns
returns c =
    let case = c.args.case.now in
    c.total.ensures (λ y. year_cost (data_of case.tables) case.plan.counts (entry_of case.plan) y) (λ i r l e. search rules)
    ∙ ap cap (sym (cost-by-year _ _ _ (case.tables.laid_out.counts ∙ sym case.same_counts)))
