use borrow.Author.Rules.{rules}
use mathlib.Core.Path.{refl, sym, ap}
use Rattle.model.specs.Calls.{outcome}
use Rattle.tables.proofs.Steps.{outcome-fine}
use Rattle.data_tests.proofs.Passed.{stopped, went_on, handed_on, head-short, head-long}
use Rattle.data_tests.proofs.test_head.Goals as goal

pub returns-then-data-lt7 : goal.returns-then-data-lt7
returns-then-data-lt7 c = stopped _ _ (sym (ap outcome (head-short _ c.if-data-lt7.true))) refl

pub returns-in_err-test_counts : goal.returns-in_err-test_counts
returns-in_err-test_counts c =
    went_on _ _ (head-long _ c.if-data-lt7.false) (handed_on _ _ c.test_counts.ensures c.in_err-test_counts.was (search rules))

pub returns : goal.returns
returns c =
    went_on _ _ (head-long _ c.if-data-lt7.false) (went_on _ _ (outcome-fine _ c.test_counts.ensures c.in_ok-test_counts.was) c.test_length.ensures)
