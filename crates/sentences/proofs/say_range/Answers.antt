use Rattle.writer.proofs.Laws.{said-joined}
use Rattle.sentences.specs.Sentences.{range_words}
use Rattle.sentences.proofs.say_range.Goals as goal

pub returns : goal.returns
unfolding range_words
returns c =
    said-joined _ _ _ _ c.say_with.ensures
    (said-joined _ _ _ _ c.say_with-2.ensures
    c.say_with-3.ensures)
