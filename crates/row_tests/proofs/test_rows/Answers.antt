use mathlib.Core.Path.{sym, ap, ◌∙◌}
use native.Mathlib.Omega.{arith}
use Rattle.model.specs.declared.Family.{Family}
use Rattle.tables.proofs.Steps.{walked_more, walked_all, member-number, member_below, stopped, outcome-fails}
use Rattle.row_tests.proofs.Steps.{box-is, inside_is, family-below, families-end, rows_fit, answered}
use Rattle.row_tests.proofs.test_rows.Goals as goal

pub test_row-requires : goal.test_row-requires
test_row-requires c =
    let l = c.walk-test.true in
    let f = c.family_at-f.ensures in
    let b = c.box_of-b.ensures.0 in
    let hy = c.loop-y-test.true in
    let hi = c.loop-i-test.true in
    let hj = c.loop-j-test.true in
    let hs = c.loop-s-test.true in
    let made = c.year_of-year.ensures in
    let number = member-number c.walk.invariant (family-below _ l) (box-is _ l f b) c.loop-y.invariant hy c.loop-i.invariant hi c.loop-j.invariant hj c.loop-s.invariant hs in
    (sym made.1, (l, rw made.0 (inside_is _ l f b hy hi hj hs, (ap (λ (r : Family). r.equal) f, number))))

pub overflow_add-row : goal.overflow_add-row
overflow_add-row c =
    let l = c.walk-test.true in
    let hy = c.loop-y-test.true in
    let hi = c.loop-i-test.true in
    let hj = c.loop-j-test.true in
    let hs = c.loop-s-test.true in
    let b = box-is _ l c.family_at-f.ensures c.box_of-b.ensures.0 in
    let few = member_below c.walk.invariant (family-below _ l) b c.loop-y.invariant hy c.loop-i.invariant hi c.loop-j.invariant hj c.loop-s.invariant hs c.box_of-b.ensures.1 in
    record { fits = omega (arith, rows_fit _ few) }

pub walk-preserved : goal.walk-preserved
walk-preserved c =
    let l = c.walk-test.true in
    let b = c.box_of-b.ensures in
    walked_more c.walk.invariant (family-below _ l) (box-is _ l c.family_at-f.ensures b.0) b.1 c.loop-y.invariant c.loop-y-test.false

pub returns-after-walk : goal.returns-after-walk
returns-after-walk c =
    c.walk.invariant.accepted ∙ answered _ _ _ (c.args.tested.now.case.now.tables.laid_out.counts ∙ sym c.args.tested.now.case.now.same_counts) (walked_all c.walk.invariant (families-end _ c.walk-test.false))

pub returns-in-Err : goal.returns-in-Err
returns-in-Err c =
    let l = c.walk-test.true in
    let hy = c.loop-y-test.true in
    let hi = c.loop-i-test.true in
    let hj = c.loop-j-test.true in
    let hs = c.loop-s-test.true in
    let b = box-is _ l c.family_at-f.ensures c.box_of-b.ensures.0 in
    let broken = outcome-fails _ (rw c.year_of-year.ensures.0 at c.test_row.ensures) c.in-Err.is in
    answered _ _ _ (c.args.tested.now.case.now.tables.laid_out.counts ∙ sym c.args.tested.now.case.now.same_counts) (stopped c.walk.invariant (family-below _ l) b c.loop-y.invariant hy c.loop-i.invariant hi c.loop-j.invariant hj c.loop-s.invariant hs broken)
