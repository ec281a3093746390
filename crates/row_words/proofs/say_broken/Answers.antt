use Rattle.sums.specs.Index.{index_of}
use Rattle.writer.proofs.Laws.{said-joined}
use Rattle.model.specs.Data.{read}
use Rattle.tables.proofs.Members.{row_inside}
use Rattle.places.proofs.Members.{member-is-at}
use Rattle.sentences.specs.Sentences.{rule_words, broken_words}
use Rattle.row_words.proofs.say_broken.Goals as goal

pub family_at-f-requires : goal.family_at-f-requires
family_at-f-requires c = (row_inside (read c.args.«data».now).counts c.say_row-p.ensures.member.0).0

pub returns : goal.returns
unfolding broken_words rule_words
returns c =
    let at = c.say_row-p.ensures.member in
    let ruled = rw c.family_at-f.ensures at c.say_either.ensures in
    rw (← member-is-at _ c.args.row (index_of c.say_row-p.result) at.0 at.1, ← c.row_figures-sums.ensures)
    (said-joined _ _ _ _ c.say_row-p.ensures.said
    (said-joined _ _ _ _ c.say_sums.ensures
    ruled))
