use mathlib.Core.Path.{ap, ◌∙◌}
use borrow.Author.Rules.{rules}
use Rattle.sums.specs.Index.{count}
use Rattle.model.specs.declared.Counts.{Counts}
use Rattle.model.specs.Families.{row_boxes}
use Rattle.model.specs.Data.{read}
use Rattle.data_tests.proofs.Passed.{sound-head, sound-entries}
use Rattle.duals.proofs.Shapes.{shaped, shape-counts}
use Rattle.certificates.proofs.Laws.{counts-laid, multipliers-refused, multipliers-whole, columns-refused, columns-passed}
use Rattle.certificates.proofs.issue.Goals as goal

pub lay_out-tables-requires : goal.lay_out-tables-requires
lay_out-tables-requires c = sound-head _ c.requires.0

pub test_multipliers-requires : goal.test_multipliers-requires
test_multipliers-requires c = shaped c.lay_out-tables.result.laid_out.counted c.shape_of.ensures

pub returns-in-Err : goal.returns-in-Err
returns-in-Err c =
    let counts = counts-laid c.lay_out-tables.result c.lay_out-tables.ensures c.shape_of.ensures in
    multipliers-refused _ _ _ _ (c.test_multipliers.ensures _ counts) c.in-Err.is (search rules)

pub lay_out_multipliers-multipliers-requires : goal.lay_out_multipliers-multipliers-requires
lay_out_multipliers-multipliers-requires c =
    let a = c.args in
    let laid = c.lay_out-tables.result.laid_out in
    let counts = counts-laid c.lay_out-tables.result c.lay_out-tables.ensures c.shape_of.ensures in
    let whole = multipliers-whole (read a.«data».now) _ a.scale a.cost (c.test_multipliers.ensures _ counts) c.in-Ok.is in
    (laid.counted, whole ∙ ap (λ (d : Counts). count (row_boxes d)) (counts ∙ shape-counts c.shape_of.ensures))

pub invariant_of-pricing : goal.invariant_of-pricing
invariant_of-pricing c = record { tested = rw c.lay_out-tables.ensures (sound-entries _ c.requires.0) }

pub returns-in_err-test_columns : goal.returns-in_err-test_columns
returns-in_err-test_columns c =
    let counts = counts-laid c.lay_out-tables.result c.lay_out-tables.ensures c.shape_of.ensures in
    columns-refused _ _ _ _ (c.test_multipliers.ensures _ counts) c.in-Ok.is
    (rw (c.lay_out-tables.ensures, c.lay_out_multipliers-multipliers.ensures.0) at c.test_columns.ensures) c.in_err-test_columns.was (search rules)

pub returns : goal.returns
returns c =
    let counts = counts-laid c.lay_out-tables.result c.lay_out-tables.ensures c.shape_of.ensures in
    columns-passed _ _ _ _ (c.test_multipliers.ensures _ counts) c.in-Ok.is
    (rw (c.lay_out-tables.ensures, c.lay_out_multipliers-multipliers.ensures.0) at c.test_columns.ensures) c.in_ok-test_columns.was
    (rw (c.lay_out-tables.ensures, c.lay_out_multipliers-multipliers.ensures.0, c.from.ensures) at c.gap_of.ensures)
