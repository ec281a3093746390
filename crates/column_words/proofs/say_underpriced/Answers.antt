use Rattle.sums.specs.Index.{index_of}
use Rattle.writer.proofs.Laws.{said-joined}
use Rattle.places.proofs.Members.{member-is-at}
use Rattle.sentences.specs.Sentences.{underpriced_words}
use Rattle.column_words.proofs.say_underpriced.Goals as goal

pub returns : goal.returns
unfolding underpriced_words
returns c =
    let at = c.say_column-p.ensures.member in
    rw (← member-is-at _ c.args.column (index_of c.say_column-p.result) at.0 at.1, ← c.column_figures-sums.ensures.0)
    (said-joined _ _ _ _ c.say_column-p.ensures.said
    (said-joined _ _ _ _ c.say_priced.ensures
    (said-joined _ _ _ _ c.say.ensures
    c.say_balance.ensures)))
