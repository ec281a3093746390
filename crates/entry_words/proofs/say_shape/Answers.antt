use Rattle.writer.proofs.Laws.{said-joined}
use Rattle.sentences.specs.Sentences.{shape_words}
use Rattle.entry_words.proofs.say_shape.Goals as goal

pub returns : goal.returns
unfolding shape_words
returns c =
    rw (← c.number_at-is.ensures.0, ← c.most_count.ensures, ← c.from-most.ensures)
    (said-joined _ _ _ _ c.say_with.ensures
    (said-joined _ _ _ _ c.say.ensures
    (said-joined _ _ _ _ c.say_name.ensures
    c.say_range.ensures)))
