use borrow.Author.Rules.{rules}
use Rattle.data_tests.proofs.Passed.{sound-entries}
use Rattle.epm.proofs.Laws.{rows-refused, cost-answered}
use Rattle.epm.proofs.price.Goals as goal

pub invariant_of-tested : goal.invariant_of-tested
invariant_of-tested c = record { tested = sound-entries _ c.requires; energies = c.fill_energies.ensures }

pub returns-in_err-test_rows : goal.returns-in_err-test_rows
returns-in_err-test_rows c = rows-refused _ _ _ (rw c.from.ensures at c.test_rows.ensures) c.in_err-test_rows.was (search rules)

pub returns : goal.returns
returns c = cost-answered _ _ _ (rw c.from.ensures at c.test_rows.ensures) c.in_ok-test_rows.was c.cost_of.ensures c.ok_or.ensures.value
