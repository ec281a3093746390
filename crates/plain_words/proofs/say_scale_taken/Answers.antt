use Rattle.writer.proofs.Laws.{said-joined}
use Rattle.plain_words.specs.Plain.{scale_taken}
use Rattle.plain_words.proofs.say_scale_taken.Goals as goal

pub returns : goal.returns
unfolding scale_taken
returns c = rw (← c.scale_in.ensures, ← c.from.ensures, ← c.is_empty.ensures) (said-joined _ _ _ _ c.say_with.ensures c.say_either.ensures)
