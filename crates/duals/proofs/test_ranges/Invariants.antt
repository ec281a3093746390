use Prim.Native.Nat.{◌+◌, ◌-◌}
use lib.ListN.{get_or}
use Rattle.sums.specs.Index.{box_of, volume, start}
use Rattle.model.specs.Families.{row_boxes, family_count}
use Rattle.tables.proofs.Walk.{Reached}
use Rattle.duals.proofs.Laws.{Rows, family_fault}
use Rattle.duals.proofs.test_ranges.Given as goal

abbrev pub invariant-loop-row : goal.invariant-loop-row
invariant-loop-row l = let boxes = row_boxes l.multipliers.counts in Rows l.multipliers.list.now l.equal (start boxes l.k) (volume (box_of boxes l.k)) l.row

abbrev pub decreases-loop-row : goal.decreases-loop-row
decreases-loop-row l = get_or l.multipliers.starts (l.k + 1) 0 - l.row

abbrev pub invariant-loop-k : goal.invariant-loop-k
invariant-loop-k l = Reached (family_fault l.multipliers.list.now l.multipliers.counts) (λ k. k) l.k family_count l.k

abbrev pub decreases-loop-k : goal.decreases-loop-k
decreases-loop-k l = family_count - l.k
