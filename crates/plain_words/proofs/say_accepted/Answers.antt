use Rattle.writer.proofs.Laws.{said-joined}
use Rattle.plain_words.specs.Plain.{accepted_words}
use Rattle.plain_words.proofs.say_accepted.Goals as goal

pub returns : goal.returns
unfolding accepted_words
returns c =
    said-joined _ _ _ _ c.say_with.ensures
    (said-joined _ _ _ _ c.say_with-2.ensures
    c.say.ensures)
