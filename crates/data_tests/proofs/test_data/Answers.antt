use borrow.Author.Rules.{rules}
use Rattle.tables.proofs.Steps.{outcome-fine}
use Rattle.data_tests.proofs.Passed.{went_on, handed_on, data-faults}
use Rattle.data_tests.proofs.test_data.Goals as goal

pub returns-in_err-test_head : goal.returns-in_err-test_head
returns-in_err-test_head c = rw (data-faults _) (handed_on _ _ c.test_head.ensures c.in_err-test_head.was (search rules))

pub returns : goal.returns
returns c = rw (data-faults _) (went_on _ _ (outcome-fine _ c.test_head.ensures c.in_ok-test_head.was) (rw c.lay_out.ensures at c.test_tables.ensures))
