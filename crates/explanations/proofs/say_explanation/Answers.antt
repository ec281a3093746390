use mathlib.Core.Path.{◌≡◌}
use Rattle.texts.specs.Format.{text_of, frame_at, whole}
use Rattle.texts.specs.Numbers.{lists_in}
use Rattle.explanations.specs.Explained.{explain_text}
use Rattle.explanations.proofs.say_explanation.Goals as goal

pub returns-in-Ok : goal.returns-in-Ok
unfolding explain_text text_of
returns-in-Ok c =
    let read : whole (lists_in c.read_text.new.numbers) ≡ text_of c.args.input.now = rw (c.in-Ok.is, c.new-numbers.ensures) at c.read_text.ensures in
    rw (← read) c.explain_numbers.ensures

pub returns-in-Err : goal.returns-in-Err
unfolding explain_text text_of
returns-in-Err c =
    let read : frame_at c.in-Err.frame.line ≡ text_of c.args.input.now = rw (c.in-Err.is, c.new-numbers.ensures) at c.read_text.ensures in
    rw (← read) c.explain_frame.ensures
