use Rattle.writer.proofs.Laws.{said-joined}
use Rattle.index_words.specs.Indices.{slice_words}
use Rattle.index_words.proofs.Indices.say_slice.Goals as goal

pub returns : goal.returns
unfolding slice_words
returns c =
    rw (← c.slice_at-slice.ensures) (said-joined _ _ _ _ c.say_counted.ensures (said-joined _ _ _ _ c.say_counted-2.ensures c.say_counted-3.ensures))
