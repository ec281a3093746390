use Rattle.writer.proofs.Laws.{said-joined}
use Rattle.sentences.specs.Sentences.{storage_words}
use Rattle.entry_words.proofs.say_storage.Goals as goal

pub returns : goal.returns
unfolding storage_words
returns c = said-joined _ _ _ _ c.say_counted.ensures c.say.ensures
