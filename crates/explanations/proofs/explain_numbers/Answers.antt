use Rattle.writer.proofs.Laws.{said-joined}
use Rattle.explanations.specs.Explained.{explanation_of}
use Rattle.explanations.proofs.explain_numbers.Goals as goal

pub returns : goal.returns
unfolding explanation_of
returns c =
    let said = said-joined _ _ _ _ c.explain_inputs.ensures (said-joined _ _ _ _ c.say_scale_taken.ensures c.say.ensures) in
    rw (c.scale_in.ensures, c.as_slice.ensures.value, c.as_slice-2.ensures.value, c.as_slice-3.ensures.value, c.as_slice-4.ensures.value, c.as_slice-5.ensures.value) at said
