use mathlib.Core.Path.{refl, ◌∙◌}
use mathlib.Core.List.{append-nil}
use Prim.Native.Nat.{◌+◌, ◌≤◌}
use native.Mathlib.Nat.{zero-add}
use native.Mathlib.Numerals.{add-one}
use native.Mathlib.Omega.{arith}
use lib.ListN.{length, length-set, drop_of_length-le}
use lib.Seq.{paste-zero, paste-suc, take_all}
use borrow.Author.Rules.{rules}
use Rattle.parts.proofs.board.write.Goals as goal

pub loop-i-init : goal.loop-i-init
loop-i-init c = (search rules, (refl, paste-zero c.args.part.now 0 c.args.outputs.now))

pub loop-i-preserved : goal.loop-i-preserved
loop-i-preserved c =
    let l = c.loop-i in
    let a = c.args in
    (search rules, (simp length-set l.invariant.1.0, rw (l.invariant.1.1, add-one, ← paste-suc a.part.now 0 a.outputs.now l.i 0 (omega arith) (search rules), zero-add)))

pub shape_of-part : goal.shape_of-part
shape_of-part c = c.loop-i.invariant.1.0

pub returns : goal.returns
returns c =
    let l = c.loop-i in
    let a = c.args in
    let g : length a.part.now ≤ 0 + l.i = omega arith in
    let d = drop_of_length-le a.part.now g in
    l.invariant.1.1 ∙ rw (d, take_all l.i a.outputs.now c.loop-i-test.false) (append-nil _)
