use Prim.Native.Nat.{◌*◌, ◌-◌}
use Rattle.sums.specs.Index.{index}
use Rattle.model.specs.Data.{read}
use Rattle.model.specs.Families.{row_boxes, family_count}
use Rattle.model.specs.Tests.{row_fault}
use Rattle.tables.specs.Layout.{plan_entry}
use Rattle.tables.proofs.Steps.{Going, Walked, of_second, of_first, of_year, year_members}
use Rattle.row_tests.proofs.test_rows.Given as goal

-- Each loop's invariant says what its own level has passed, from the row where it began; a measure is the turns that are left.
abbrev pub invariant-loop-s : goal.invariant-loop-s
invariant-loop-s l = Going (λ s. row_fault (read l.tested.case.now.tables.list.now) l.scale (plan_entry l.tested.case.now.plan.counts l.tested.case.now.plan.list.now) (index l.k l.y l.i l.j s)) l.b.slices 1 l.initial.row l.s l.row l.answer

abbrev pub decreases-loop-s : goal.decreases-loop-s
decreases-loop-s l = l.b.slices - l.s

abbrev pub invariant-loop-j : goal.invariant-loop-j
invariant-loop-j l = Going (λ j. of_second (row_fault (read l.tested.case.now.tables.list.now) l.scale (plan_entry l.tested.case.now.plan.counts l.tested.case.now.plan.list.now)) l.b l.k l.y l.i j) l.b.seconds l.b.slices l.initial.row l.j l.row l.answer

abbrev pub decreases-loop-j : goal.decreases-loop-j
decreases-loop-j l = l.b.seconds - l.j

abbrev pub invariant-loop-i : goal.invariant-loop-i
invariant-loop-i l = Going (λ i. of_first (row_fault (read l.tested.case.now.tables.list.now) l.scale (plan_entry l.tested.case.now.plan.counts l.tested.case.now.plan.list.now)) l.b l.k l.y i) l.b.firsts (l.b.seconds * l.b.slices) l.initial.row l.i l.row l.answer

abbrev pub decreases-loop-i : goal.decreases-loop-i
decreases-loop-i l = l.b.firsts - l.i

abbrev pub invariant-loop-y : goal.invariant-loop-y
invariant-loop-y l = Going (λ y. of_year (row_fault (read l.tested.case.now.tables.list.now) l.scale (plan_entry l.tested.case.now.plan.counts l.tested.case.now.plan.list.now)) l.b l.k y) l.b.years (year_members l.b) l.initial.row l.y l.row l.answer

abbrev pub decreases-loop-y : goal.decreases-loop-y
decreases-loop-y l = l.b.years - l.y

abbrev pub invariant-walk : goal.invariant-walk
invariant-walk l = Walked (row_fault (read l.tested.case.now.tables.list.now) l.scale (plan_entry l.tested.case.now.plan.counts l.tested.case.now.plan.list.now)) (row_boxes l.tested.case.now.plan.counts) l.k l.row l.answer

abbrev pub decreases-walk : goal.decreases-walk
decreases-walk l = family_count - l.k
