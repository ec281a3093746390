use mathlib.Core.Path.{refl, sym, ◌∙◌}
use mathlib.Core.Bool.{true, false}
use borrow.Author.Rules.{rules}
use Rattle.energy.specs.Energies.{all_if}
use Rattle.energy.proofs.Laws.{all_more}
use Rattle.energy.proofs.totals.sum_of.Goals as goal
use Rattle.energy.proofs.totals.sum_of.Goals.{then-test, else-test}

pub loop-i-init : goal.loop-i-init
unfolding all_if
loop-i-init g c = (search rules, λ p f h k. c.zero-sum.ensures)

pub loop-i-preserved : goal.loop-i-preserved
loop-i-preserved g c =
    let l = c.loop-i-test.true in (
      search rules,
      λ p f h k.
          let before = c.loop-i.invariant.1 p f h k in
          elim c.if-test.branch [
            | then-test w ↦ all_more {b = true} c.loop-i.i p f (w.sum-is ∙ k _ _ _ l w.add-sum.ensures) before (sym w.if-test.true ∙ h _ _ l c.test.ensures) refl
            | else-test w ↦ all_more {t = f c.loop-i.i} {b = false} c.loop-i.i p f w.sum-is before (sym w.if-test.false ∙ h _ _ l c.test.ensures) refl
          ],
    )

pub add-sum-requires : goal.add-sum-requires
add-sum-requires g c = (c.requires _ c.loop-i-test.true).1 _
