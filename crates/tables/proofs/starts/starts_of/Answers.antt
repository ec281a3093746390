use Prim.Native.Nat.{ℕ, ◌+◌, zero-le}
use native.Mathlib.Omega.{arith}
use lib.ListN.{length-set, length-replicate}
use Rattle.sums.specs.Sum.{sum}
use Rattle.sums.proofs.Sums.{sum-one-more}
use Rattle.tables.proofs.Laws.{stored}
use Rattle.tables.proofs.starts.starts_of.Goals as goal

pub loop-k-init : goal.loop-k-init
unfolding sum
loop-k-init g c = record {
  upto = zero-le;
  whole = simp (length-set, length-replicate);
  few = omega arith;
  next = λ f h. omega arith;
  is = λ f h. stored _ (λ i. c.args.from + sum i f) (omega (arith, length-replicate {A = ℕ} g.row.N 0)) (λ i l. absurd (omega arith)) (omega arith);
}

pub loop-k-preserved : goal.loop-k-preserved
loop-k-preserved g c =
    let before = c.loop-k.invariant in
    let few = c.requires.small _ _ c.loop-k-test.true c.size-next.ensures in
    record {
      upto = omega arith;
      whole = simp length-set before.whole;
      few = omega arith;
      next = λ f h. omega (arith, before.next f h, h _ _ c.loop-k-test.true c.size-next.ensures, sum-one-more c.loop-k.k f);
      is = λ f h.
          stored c.loop-k.starts (λ i. c.args.from + sum i f) (omega (arith, before.whole)) (before.is f h)
          (omega (arith, before.next f h, h _ _ c.loop-k-test.true c.size-next.ensures, sum-one-more c.loop-k.k f));
    }
