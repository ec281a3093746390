use Rattle.writer.proofs.Laws.{said-joined}
use Rattle.sentences.specs.Sentences.{priced_words}
use Rattle.column_words.proofs.say_priced.Goals as goal

pub returns : goal.returns
unfolding priced_words
returns c =
    said-joined _ _ _ _ c.say.ensures
    (said-joined _ _ _ _ c.say_amount.ensures
    (said-joined _ _ _ _ c.say-2.ensures
    (said-joined _ _ _ _ c.say_amount-2.ensures
    (said-joined _ _ _ _ c.say-3.ensures
    c.say_amount-3.ensures))))
