use Rattle.sums.specs.Index.{index_of}
use Rattle.writer.proofs.Laws.{said-joined}
use Rattle.places.proofs.Members.{entry-is-at}
use Rattle.sentences.specs.Sentences.{out_of_range_words}
use Rattle.entry_words.proofs.say_out_of_range.Goals as goal

pub returns : goal.returns
unfolding out_of_range_words
returns c =
    let at = c.say_entry-p.ensures.member in
    rw (← entry-is-at _ c.args.entry (index_of c.say_entry-p.result) at.0 at.1, ← c.entry_figures-figures.ensures)
    (said-joined _ _ _ _ c.say_entry-p.ensures.said
    c.say_figures.ensures)
