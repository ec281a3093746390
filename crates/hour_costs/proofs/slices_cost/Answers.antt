use Rattle.tables.specs.Layout.{plan_entry}
use Rattle.hour_costs.proofs.Laws.{hours-priced}
use Rattle.hour_costs.proofs.slices_cost.Goals as goal

pub returns : goal.returns
returns c =
    hours-priced _ c.args.case.now.plan.counts (plan_entry c.args.case.now.plan.counts c.args.case.now.plan.list.now) c.requires.table _ _ c.slices_at.result.now c.slices_at.ensures.1
    c.unit_price-price.ensures
    (rw (← c.args.case.now.same_counts) at c.weighted_hours-hours.ensures)
    c.multiply.ensures
