use native.Mathlib.Nat.{add-sub_cancel_left}
use native.Mathlib.Omega.{arith}
use Rattle.hour_costs.proofs.Laws.{slices-fit, slices-are}
use Rattle.hour_costs.proofs.slices_at.Goals as goal

pub overflow_add-start : goal.overflow_add-start
overflow_add-start c =
    record { fits = omega (arith, slices-fit c.args.plan.now c.requires c.column_set.ensures c.inside_of-first.ensures c.slices_of-n.ensures.0) }

pub overflow_add-end : goal.overflow_add-end
overflow_add-end c =
    record { fits = omega (arith, slices-fit c.args.plan.now c.requires c.column_set.ensures c.inside_of-first.ensures c.slices_of-n.ensures.0) }

pub offset_bounds-plan-start : goal.offset_bounds-plan-start
offset_bounds-plan-start c =
    record { fits = omega (arith, slices-fit c.args.plan.now c.requires c.column_set.ensures c.inside_of-first.ensures c.slices_of-n.ensures.0) }

pub slice_bounds-result-end : goal.slice_bounds-result-end
slice_bounds-result-end c =
    slices-fit c.args.plan.now c.requires c.column_set.ensures c.inside_of-first.ensures c.slices_of-n.ensures.0

pub returns : goal.returns
returns c =
    rw add-sub_cancel_left
    (slices-are c.args.plan.now c.requires c.column_set.ensures c.inside_of-first.ensures c.slices_of-n.ensures.0)
