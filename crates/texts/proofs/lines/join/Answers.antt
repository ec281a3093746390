use mathlib.Core.Path.{◌≡◌, sym, ◌∙◌}
use native.Mathlib.Omega.{arith}
use Prim.Native.Nat.{◌+◌}
use Rattle.std.proofs.lemmas.List.{length-drop}
use borrow.Author.Rules.{rules}
use Rattle.texts.proofs.LineLaws.{counted, number-left, no_number_left, part-of, behind_word, digits-behind, next-place, join-none, join-over, join_reads, join-stops, joined_none, joined_more}
use Rattle.text_numbers.proofs.NumberLaws.{number-low, number_same}
use Rattle.texts.proofs.lines.join.Goals as goal

pub returns-in_err-count : goal.returns-in_err-count
returns-in_err-count g c =
    let none = sym (rw (c.in_err-count.was, c.DIGITS-width.ensures) at c.count_on.ensures.counted) in
    rw c.from_residual.ensures (join-none _ _ _ _ _ none)

pub returns-then-remaining_capacity-count : goal.returns-then-remaining_capacity-count
returns-then-remaining_capacity-count g c =
    let n = c.in_ok-count.ensures in
    join-over _ _ _ _ _ _ (rw c.DIGITS-width.ensures at n.counted) n.some (omega (arith, c.remaining_capacity.ensures))

pub slice_bounds-chunks_exact-count : goal.slice_bounds-chunks_exact-count
slice_bounds-chunks_exact-count g c = omega (arith, (counted _ _ _ c.in_ok-count.ensures.counted (search rules)).long)

pub slice_bounds-chunks_exact-start : goal.slice_bounds-chunks_exact-start
slice_bounds-chunks_exact-start g c = omega (arith, (counted _ _ _ c.in_ok-count.ensures.counted (search rules)).long)

pub loop-number-init : goal.loop-number-init
loop-number-init g c =
    let all = c.chunks_exact-number-items.ensures in
    let same = c.into_iter-number-iterator.ensures.into_iter_gives in
    record {
      goes = rw (same, all.size) (omega arith);
      size = rw (same, all.size, c.DIGITS-width.ensures);
      i = 0;
      inside = omega (arith, (counted _ _ _ c.in_ok-count.ensures.counted (search rules)).long);
      left = rw (same, all.rest) (behind_word _ _);
      upto = omega arith;
      so = joined_none _ _ _ _;
    }

pub returns-in_err-v : goal.returns-in_err-v
returns-in_err-v g c =
    let n = c.in_ok-count.ensures in
    let whole = rw c.DIGITS-width.ensures at n.counted in
    let i = c.loop-number.invariant in
    let step = c.in-Some.ensures.steps.1 in
    let part = part-of _ _ _ _ _ _ i.left step.0 (step.1 ∙ i.size) i.inside in
    let none = rw (digits-behind (step.1 ∙ i.size)) at (sym c.number_in.ensures ∙ c.in_err-v.was) in
    rw c.from_residual-in_err-v.ensures
    (join-stops _ _ _ _ _ _ whole n.some (omega (arith, c.remaining_capacity.ensures, c.if-remaining_capacity-count.false)) _ (number-left (counted _ _ _ whole (search rules)) part.inside) (sym (number_same _ _ _ _ part.bytes) ∙ none))

pub from_digits-requires : goal.from_digits-requires
from_digits-requires g c =
    let size = digits-behind (c.in-Some.ensures.steps.1.1 ∙ c.loop-number.invariant.size) in
    number-low c.in-Some.number.now _ _ (rw size at (sym c.number_in.ensures ∙ c.in_ok-v.was))

pub push-requires : goal.push-requires
push-requires g c =
    let i = c.loop-number.invariant in
    let step = c.in-Some.ensures.steps.1 in
    let part = part-of _ _ _ _ _ _ i.left step.0 (step.1 ∙ i.size) i.inside in
    let whole = rw c.DIGITS-width.ensures at c.in_ok-count.ensures.counted in
    (search rules, omega (arith, number-left (counted _ _ _ whole (search rules)) part.inside, i.upto, c.remaining_capacity.ensures, c.if-remaining_capacity-count.false))

pub loop-number-preserved : goal.loop-number-preserved
loop-number-preserved g c =
    let i = c.loop-number.invariant in
    let steps = c.in-Some.ensures.steps in
    let part = part-of _ _ _ _ _ _ i.left steps.1.0 (steps.1.1 ∙ i.size) i.inside in
    let number = rw (digits-behind (steps.1.1 ∙ i.size)) at (sym c.number_in.ensures ∙ c.in_ok-v.was) in
    let p = c.push.ensures in
    record {
      goes = rw steps.0 i.goes;
      size = steps.0 ∙ i.size;
      i = i.i + 1;
      inside = rw next-place part.inside;
      left = rw next-place part.left;
      upto = omega (arith, p.len, i.upto);
      so = rw (p.items, c.from_digits.ensures) (joined_more _ _ _ _ _ _ _ i.so (sym (number_same _ _ _ _ part.bytes) ∙ number));
    }

pub returns : goal.returns
returns g c =
    let n = c.in_ok-count.ensures in
    let whole = rw c.DIGITS-width.ensures at n.counted in
    let i = c.loop-number.invariant in
    let short = rw (i.left, i.size, length-drop) at c.in-None.ensures.steps.1.0 in
    let all : i.i ≡ c.in_ok-count.count = no_number_left (counted _ _ _ whole (search rules)) i.inside short in
    sym (join_reads _ _ _ _ _ _ whole n.some (omega (arith, c.remaining_capacity.ensures, c.if-remaining_capacity-count.false)) ∙ rw all at i.so)
