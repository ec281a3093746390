use Rattle.data_tests.proofs.Passed.{passed-long, passed-counts, passed-tables}
use Rattle.data_tests.proofs.lay_out.Goals as goal

pub counts_of-counts-requires : goal.counts_of-counts-requires
counts_of-counts-requires c = passed-long _ c.requires

pub table_starts-requires : goal.table_starts-requires
table_starts-requires c = rw c.counts_of-counts.ensures (passed-counts _ c.requires)

pub invariant_of-result : goal.invariant_of-result
invariant_of-result c = record { laid_out = passed-tables _ c.requires _ c.counts_of-counts.ensures c.table_starts.ensures.1 }
