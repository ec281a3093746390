use mathlib.Core.Path.{sym, ◌∙◌}
use Rattle.epm.proofs.Laws.{answered, accepted-parts, post-after}
use Rattle.epm.proofs.post.Goals as goal

pub put_after-requires : goal.put_after-requires
put_after-requires c = λ cost e. accepted-parts _ _ _ (sym c.check-checked.ensures.1 ∙ e)

pub returns : goal.returns
returns c =
    let a = c.args in
    let put = c.put_after.ensures in
    let q = post-after a.«data».now a.scale a.plan.now a.year a.board.now a.start c.check-checked.ensures.1 in
    let same = answered (put.0 ∙ q.0) in
    (same.0, (same.1, put.1 ∙ q.1))
