use Rattle.writer.proofs.Laws.{said-joined}
use Rattle.sentences.specs.Sentences.{sums_words}
use Rattle.row_words.proofs.say_sums.Goals as goal

pub returns : goal.returns
unfolding sums_words
returns c =
    said-joined _ _ _ _ c.say.ensures
    (said-joined _ _ _ _ c.say_amount.ensures
    (said-joined _ _ _ _ c.say-2.ensures
    c.say_amount-2.ensures))
