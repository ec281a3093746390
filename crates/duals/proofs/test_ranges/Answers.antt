use mathlib.Core.Path.{refl, sym, ap, ◌∙◌}
use native.Mathlib.Omega.{arith}
use Rattle.sums.proofs.Spans.{upto-stop}
use Rattle.model.specs.Calls.{outcome}
use Rattle.model.specs.Tests.{unless}
use Rattle.tables.proofs.Walk.{begun, turned, ended}
use Rattle.duals.proofs.Laws.{all-multipliers, family-start, family-end, family-rows, family-faults, tested, rows-begun, rows-turned, rows-ended, rows-stopped}
use Rattle.duals.proofs.test_ranges.Goals as goal

pub loop-k-init : goal.loop-k-init
loop-k-init c = begun refl

pub loop-row-init : goal.loop-row-init
loop-row-init c = rows-begun _ (family-start c.args.multipliers.now.laid_out c.loop-k-test.true)

pub multiplier_in-m-requires : goal.multiplier_in-m-requires
multiplier_in-m-requires c = omega (arith, c.loop-row-test.true, family-rows c.args.multipliers.now.laid_out c.loop-k-test.true)

pub loop-row-preserved : goal.loop-row-preserved
unfolding unless
loop-row-preserved c =
    let row = tested c.args.multipliers.now.list.now c.family_at-f.result.equal c.loop-row.row c.multiplier_in-m.ensures c.in_range.ensures in
    rows-turned _ c.loop-row.invariant (omega (arith, c.loop-row-test.true, family-end c.args.multipliers.now.laid_out c.loop-k-test.true))
    (row ∙ rw (c.if-not-in_range.false))

pub loop-k-preserved : goal.loop-k-preserved
loop-k-preserved c =
    let rows = rows-ended _ c.loop-row.invariant (omega (arith, c.loop-row-test.false, family-end c.args.multipliers.now.laid_out c.loop-k-test.true)) in
    turned c.loop-k.invariant c.loop-k-test.true (family-faults _ _ _ c.family_at-f.ensures ∙ rows) refl

pub returns : goal.returns
returns c = λ D e. sym (ap outcome (all-multipliers c.args.multipliers.now.list.now D e ∙ (ended c.loop-k.invariant c.loop-k-test.false).0))

pub returns-then-not-in_range : goal.returns-then-not-in_range
unfolding unless
returns-then-not-in_range c = λ D e.
    let ms = c.args.multipliers.now.list.now in
    let row = tested ms c.family_at-f.result.equal c.loop-row.row c.multiplier_in-m.ensures c.in_range.ensures in
    let rows =
    rows-stopped _ c.loop-row.invariant (omega (arith, c.loop-row-test.true, family-end c.args.multipliers.now.laid_out c.loop-k-test.true))
    (row ∙ rw (c.if-not-in_range.true)) in
    sym (ap outcome (all-multipliers ms D e ∙ upto-stop _ _ _ c.loop-k-test.true c.loop-k.invariant.so (family-faults ms _ _ c.family_at-f.ensures ∙ rows)))
