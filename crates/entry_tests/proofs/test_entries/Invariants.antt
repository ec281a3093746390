use Prim.Native.Nat.{◌+◌, ◌-◌}
use Rattle.sums.specs.Index.{inside}
use Rattle.model.specs.Data.{read, table_count}
use Rattle.tables.specs.Layout.{start_from, table_sets}
use Rattle.tables.proofs.Walk.{Reached}
use Rattle.entry_tests.proofs.Entries.{at_slice, at_second, at_first, at_year, table_fault}
use Rattle.entry_tests.proofs.test_entries.Given as goal

abbrev pub invariant-loop-s : goal.invariant-loop-s
invariant-loop-s l = Reached (at_slice (read l.tables.list.now) l.b l.t l.y l.i l.j) (λ k. start_from l.tables.counts table_sets 7 l.t + inside l.b l.y l.i l.j k) l.s l.b.slices l.place

abbrev pub decreases-loop-s : goal.decreases-loop-s
decreases-loop-s l = l.b.slices - l.s

abbrev pub invariant-loop-j : goal.invariant-loop-j
invariant-loop-j l = Reached (at_second (read l.tables.list.now) l.b l.t l.y l.i) (λ k. start_from l.tables.counts table_sets 7 l.t + inside l.b l.y l.i k 0) l.j l.b.seconds l.place

abbrev pub decreases-loop-j : goal.decreases-loop-j
decreases-loop-j l = l.b.seconds - l.j

abbrev pub invariant-loop-i : goal.invariant-loop-i
invariant-loop-i l = Reached (at_first (read l.tables.list.now) l.b l.t l.y) (λ k. start_from l.tables.counts table_sets 7 l.t + inside l.b l.y k 0 0) l.i l.b.firsts l.place

abbrev pub decreases-loop-i : goal.decreases-loop-i
decreases-loop-i l = l.b.firsts - l.i

abbrev pub invariant-loop-y : goal.invariant-loop-y
invariant-loop-y l = Reached (at_year (read l.tables.list.now) l.b l.t) (λ k. start_from l.tables.counts table_sets 7 l.t + inside l.b k 0 0 0) l.y l.b.years l.place

abbrev pub decreases-loop-y : goal.decreases-loop-y
decreases-loop-y l = l.b.years - l.y

abbrev pub invariant-loop-t : goal.invariant-loop-t
invariant-loop-t l = Reached (table_fault (read l.tables.list.now)) (λ k. start_from l.tables.counts table_sets 7 k) l.t table_count l.place

abbrev pub decreases-loop-t : goal.decreases-loop-t
decreases-loop-t l = table_count - l.t
