use Prim.Native.Nat.{◌*◌, ◌-◌}
use Rattle.std.specs.Prelude.{Ok}
use Rattle.sums.specs.Index.{index}
use Rattle.tables.specs.Lists.{data_of}
use Rattle.model.specs.Columns.{column_boxes, column_kind_count}
use Rattle.model.specs.Tests.{column_fault}
use Rattle.tables.proofs.Steps.{Going, Walked, of_second, of_first, of_year, year_members}
use Rattle.pricing.proofs.test_columns.Given as goal

-- Each loop's invariant says what its own level has passed, from the column where it began; a measure is the turns that are left.
abbrev pub invariant-loop-s : goal.invariant-loop-s
invariant-loop-s l = Going (λ s. column_fault (data_of l.pricing.tested.tables.now) l.pricing.multipliers.list.now (index l.k l.y l.i l.j s)) l.b.slices 1 l.initial.column l.s l.column (Ok tt)

abbrev pub decreases-loop-s : goal.decreases-loop-s
decreases-loop-s l = l.b.slices - l.s

abbrev pub invariant-loop-j : goal.invariant-loop-j
invariant-loop-j l = Going (λ j. of_second (column_fault (data_of l.pricing.tested.tables.now) l.pricing.multipliers.list.now) l.b l.k l.y l.i j) l.b.seconds l.b.slices l.initial.column l.j l.column (Ok tt)

abbrev pub decreases-loop-j : goal.decreases-loop-j
decreases-loop-j l = l.b.seconds - l.j

abbrev pub invariant-loop-i : goal.invariant-loop-i
invariant-loop-i l = Going (λ i. of_first (column_fault (data_of l.pricing.tested.tables.now) l.pricing.multipliers.list.now) l.b l.k l.y i) l.b.firsts (l.b.seconds * l.b.slices) l.initial.column l.i l.column (Ok tt)

abbrev pub decreases-loop-i : goal.decreases-loop-i
decreases-loop-i l = l.b.firsts - l.i

abbrev pub invariant-loop-y : goal.invariant-loop-y
invariant-loop-y l = Going (λ y. of_year (column_fault (data_of l.pricing.tested.tables.now) l.pricing.multipliers.list.now) l.b l.k y) l.b.years (year_members l.b) l.initial.column l.y l.column (Ok tt)

abbrev pub decreases-loop-y : goal.decreases-loop-y
decreases-loop-y l = l.b.years - l.y

abbrev pub invariant-loop-k : goal.invariant-loop-k
invariant-loop-k l = Walked (column_fault (data_of l.pricing.tested.tables.now) l.pricing.multipliers.list.now) (column_boxes l.pricing.multipliers.counts) l.k l.column (Ok tt)

abbrev pub decreases-loop-k : goal.decreases-loop-k
decreases-loop-k l = column_kind_count - l.k
