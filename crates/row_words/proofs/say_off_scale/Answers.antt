use Rattle.sums.specs.Index.{index_of}
use Rattle.writer.proofs.Laws.{said-joined}
use Rattle.places.proofs.Members.{member-is-at}
use Rattle.sentences.specs.Sentences.{off_scale_words}
use Rattle.row_words.proofs.say_off_scale.Goals as goal

pub returns : goal.returns
unfolding off_scale_words
returns c =
    let at = c.say_row-p.ensures.member in
    rw (← member-is-at _ c.args.row (index_of c.say_row-p.result) at.0 at.1, ← c.row_figures-sums.ensures)
    (said-joined _ _ _ _ c.say_row-p.ensures.said
    (said-joined _ _ _ _ c.say_sums.ensures
    c.say.ensures))
