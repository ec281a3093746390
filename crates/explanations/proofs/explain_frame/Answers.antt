use Rattle.writer.proofs.Laws.{said-joined}
use Rattle.explanations.specs.Explained.{explanation_of}
use Rattle.explanations.proofs.explain_frame.Goals as goal

pub returns : goal.returns
unfolding explanation_of
returns c = said-joined _ _ _ _ c.say_answer.ensures c.say.ensures
