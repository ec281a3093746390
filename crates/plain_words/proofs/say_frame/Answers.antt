use Rattle.writer.proofs.Laws.{said-joined}
use Rattle.plain_words.specs.Plain.{frame_words}
use Rattle.plain_words.proofs.say_frame.Goals as goal

pub returns : goal.returns
unfolding frame_words
returns c = said-joined _ _ _ _ c.say_with.ensures c.say.ensures
