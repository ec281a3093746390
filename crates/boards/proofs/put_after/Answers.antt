use borrow.Author.Rules.{rules}
use Rattle.boards.proofs.Laws.{kept-after, put-by-test}
use Rattle.boards.proofs.put_after.Goals as goal

pub returns-in_err-cost : goal.returns-in_err-cost
returns-in_err-cost c = kept-after _ _ _ _ c.in_err-cost.was (search rules)

pub returns : goal.returns
returns c = let put = c.put_year.ensures in put-by-test _ _ _ _ c.in_ok-cost.was put.0 put.1
