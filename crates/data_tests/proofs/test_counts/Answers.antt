use borrow.Author.Rules.{rules}
use Rattle.model.specs.Tests.{counts_fault, count_fault}
use Rattle.data_tests.proofs.Passed.{count-passed, count-refused}
use Rattle.data_tests.proofs.test_counts.Goals as goal

pub returns : goal.returns
unfolding counts_fault
returns c =
    let l = c.args.«data».now in
    c.first_refused.ensures (count_fault l) (λ i h k. count-passed l i (search rules)) (λ i r h k e. rw e (count-refused l i (search rules)))
