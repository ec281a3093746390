use Rattle.writer.proofs.Laws.{said-joined}
use Rattle.sentences.specs.Sentences.{scale_words}
use Rattle.entry_words.proofs.say_scale.Goals as goal

pub returns : goal.returns
unfolding scale_words
returns c = rw (← c.from.ensures) (said-joined _ _ _ _ c.say.ensures c.say_range.ensures)
