use Rattle.writer.proofs.Laws.{said-joined}
use Rattle.sentences.specs.Sentences.{length_words}
use Rattle.sentences.proofs.say_lengths.Goals as goal

pub returns : goal.returns
unfolding length_words
returns c =
    said-joined _ _ _ _ c.say.ensures
    (said-joined _ _ _ _ c.say_with.ensures
    c.say_with-2.ensures)
