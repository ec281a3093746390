use mathlib.Core.Path.{refl, sym, ◌∙◌}
use Prim.Native.Nat.{◌-◌}
use Rattle.model.specs.Data.{read}
use Rattle.column_terms.specs.Pairs.{no_terms}
use Rattle.gap.specs.Signs.{term⁺, term⁻, with_term}
use Rattle.gap.proofs.Laws.{begin, add, turn, walked-sum, walked-member, no-term⁺, no-term⁻, all-terms}
use Rattle.gap.proofs.constant_terms.Goals as goal

pub loop-k-init : goal.loop-k-init
loop-k-init c = begin

pub loop-y-init : goal.loop-y-init
loop-y-init c = begin

pub loop-i-init : goal.loop-i-init
loop-i-init c = begin

pub loop-j-init : goal.loop-j-init
loop-j-init c = begin

pub loop-s-init : goal.loop-s-init
loop-s-init c = begin

pub add_term-t-requires : goal.add_term-t-requires
add_term-t-requires c =
    walked-member _ _ c.walked_box-b.ensures c.loop-k-test.true c.loop-y-test.true c.loop-i-test.true c.loop-j-test.true c.loop-s-test.true

pub loop-s-preserved : goal.loop-s-preserved
unfolding with_term
loop-s-preserved c = add c.loop-s.invariant c.loop-s-test.true c.add_term-t.ensures

pub loop-j-preserved : goal.loop-j-preserved
loop-j-preserved c = turn c.loop-j.invariant c.loop-j-test.true c.loop-s.invariant c.loop-s-test.false refl refl

pub loop-i-preserved : goal.loop-i-preserved
loop-i-preserved c = turn c.loop-i.invariant c.loop-i-test.true c.loop-j.invariant c.loop-j-test.false refl refl

pub loop-y-preserved : goal.loop-y-preserved
loop-y-preserved c = turn c.loop-y.invariant c.loop-y-test.true c.loop-i.invariant c.loop-i-test.false refl refl

pub loop-k-preserved : goal.loop-k-preserved
loop-k-preserved c =
    let a = c.args in
    let D = read a.pricing.now.tested.tables.now.list.now in
    let ms = a.pricing.now.multipliers.list.now in
    let l = c.loop-k-test.true in
    let b = c.walked_box-b.ensures in
    turn c.loop-k.invariant l c.loop-y.invariant c.loop-y-test.false
    (walked-sum _ _ b (term⁺ D ms) (λ h. no-term⁺ D ms l h)) (walked-sum _ _ b (term⁻ D ms) (λ h. no-term⁻ D ms l h))

pub returns : goal.returns
unfolding no_terms
returns c =
    all-terms _ _ (c.args.pricing.now.tested.tables.now.laid_out.counts ∙ sym c.args.pricing.now.same_counts) c.none-t.ensures c.loop-k.invariant c.loop-k-test.false
