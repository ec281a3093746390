use borrow.Author.Rules.{rules}
use Rattle.plan_tests.proofs.Laws.{scale_out}
use Rattle.plan_tests.proofs.test_plan.Goals as goal

pub returns-then-not-contains : goal.returns-then-not-contains
returns-then-not-contains c = scale_out _ _ _ (search rules)
