use mathlib.Core.Path.{◌≡◌, ◌∙◌}
use native.Mathlib.Omega.{arith}
use Rattle.terms.proofs.Laws.{plus-on, summed-none, summed-more}
use Rattle.terms.proofs.plants.plants_sum.Goals as goal

pub loop-g-init : goal.loop-g-init
loop-g-init g c = λ p h. summed-none c.zero-sum.ensures

pub loop-g-preserved : goal.loop-g-preserved
loop-g-preserved g c = λ p h.
    let before = c.loop-g.invariant p h in
    let l = c.loop-g-test.true in
    let test-is = h c.loop-g.g c.here.result l c.here.ensures in
    let entry-is = c.part_at.ensures.0 in
    summed-more before l (c.add_product_if-sum.ensures ∙ rw (before.is, test-is, entry-is, plus-on))

pub returns : goal.returns
returns g c = λ p h.
    let before = c.loop-g.invariant p h in
    let all : c.loop-g.g ≡ c.args.tables.now.counts.plants = omega (arith, before.upto) in
    rw all at before.is
