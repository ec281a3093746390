use mathlib.Core.Path.{◌∙◌}
use borrow.Author.Rules.{rules}
use Rattle.tables.proofs.Steps.{outcome-fine}
use Rattle.data_tests.proofs.Passed.{sound-head, laid-counts}
use Rattle.epm.proofs.Laws.{answered, columns-laid, data-refused, plan-refused, plan-passed, plan-whole}
use Rattle.epm.proofs.check.Goals as goal

pub returns-in_err-test_data : goal.returns-in_err-test_data
returns-in_err-test_data c = answered (data-refused _ _ _ c.test_data.ensures c.in_err-test_data.was (search rules))

pub lay_out-tables-requires : goal.lay_out-tables-requires
lay_out-tables-requires c = sound-head _ (outcome-fine _ c.test_data.ensures c.in_ok-test_data.was)

pub returns-in_err-test_plan : goal.returns-in_err-test_plan
returns-in_err-test_plan c =
    let sound = outcome-fine _ c.test_data.ensures c.in_ok-test_data.was in
    let columns = columns-laid c.lay_out-tables.result c.lay_out-tables.ensures c.column_count.ensures in
    answered (plan-refused _ _ _ sound columns c.test_plan.ensures c.in_err-test_plan.was (search rules))

pub lay_out_plan-plan-requires : goal.lay_out_plan-plan-requires
lay_out_plan-plan-requires c =
    (c.lay_out-tables.result.laid_out.counted, plan-whole _ _ _ c.test_plan.ensures c.in_ok-test_plan.was ∙ c.column_count.ensures)

pub returns : goal.returns
returns c =
    let sound = outcome-fine _ c.test_data.ensures c.in_ok-test_data.was in
    let tables = c.lay_out-tables.ensures in
    let plan = c.lay_out_plan-plan.ensures in
    let columns = columns-laid c.lay_out-tables.result tables c.column_count.ensures in
    answered (plan-passed _ _ _ sound columns c.test_plan.ensures c.in_ok-test_plan.was
    (c.price.ensures ∙ rw (plan.0, plan.1, ← laid-counts c.lay_out-tables.result tables, tables)))
