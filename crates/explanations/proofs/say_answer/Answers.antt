use Rattle.writer.proofs.Laws.{said-joined}
use Rattle.explanations.specs.Explained.{answer_words}
use Rattle.explanations.proofs.say_answer.Goals as goal

pub returns : goal.returns
unfolding answer_words
returns c = said-joined _ _ _ _ c.answer_line.ensures.said c.say_sentence.ensures
