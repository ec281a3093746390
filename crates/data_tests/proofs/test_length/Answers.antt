use native.Mathlib.Omega.{arith}
use Rattle.model.specs.Data.{table_count}
use Rattle.data_tests.proofs.Passed.{counted, whole_is, length-wrong, length-right}
use Rattle.data_tests.proofs.test_length.Goals as goal

pub table_starts-tables_at-requires : goal.table_starts-tables_at-requires
table_starts-tables_at-requires c = rw c.counts_of.ensures (counted _ c.requires.1)

pub returns-then-data-whole : goal.returns-then-data-whole
returns-then-data-whole c =
    let l = c.args.«data».now in
    length-wrong l (whole_is l c.counts_of.ensures (c.table_starts-tables_at.ensures.1 table_count (omega arith))) c.if-data-whole.true

pub returns : goal.returns
returns c =
    let l = c.args.«data».now in
    length-right l (whole_is l c.counts_of.ensures (c.table_starts-tables_at.ensures.1 table_count (omega arith))) c.if-data-whole.false
