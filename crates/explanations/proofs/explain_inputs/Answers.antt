use Rattle.explanations.specs.Explained.{certified_words}
use Rattle.explanations.proofs.Laws.{answered}
use Rattle.explanations.proofs.explain_inputs.Goals as goal

pub say_answer-requires : goal.say_answer-requires
say_answer-requires c =
    let a = c.args.inputs.now in
    answered a.«data».now a.scale a.plan.now a.multipliers.now c.certify-answer.result c.certify-answer.ensures.1.0

pub returns : goal.returns
unfolding certified_words
returns c = rw (← c.certify-answer.ensures.1.0) c.say_answer.ensures
