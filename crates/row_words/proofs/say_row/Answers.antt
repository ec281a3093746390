use Rattle.writer.proofs.Laws.{said-joined}
use Rattle.model.specs.Families.{row_boxes, family_of}
use Rattle.data_tests.proofs.Passed.{passed-long, sound-head, counts-sound, counts-read}
use Rattle.tables.proofs.Members.{row_inside}
use Rattle.sentences.specs.Sentences.{row_words}
use Rattle.sentences.proofs.Laws.{numbered-asked, numbered-read}
use Rattle.index_words.proofs.Laws.{low-inside}
use Rattle.row_words.proofs.say_row.Goals as goal

pub counts_of-c-requires : goal.counts_of-c-requires
counts_of-c-requires c = passed-long _ (sound-head _ c.requires.0)

pub row_place-p-requires : goal.row_place-p-requires
row_place-p-requires c = numbered-asked _ c.requires.0 c.counts_of-c.ensures row_boxes c.requires.1

pub family_at-f-requires : goal.family_at-f-requires
family_at-f-requires c = (row_inside c.counts_of-c.result c.row_place-p.ensures.0).0

pub say_place-requires : goal.say_place-requires
say_place-requires c =
    let counted = counts-sound _ c.requires.0 c.counts_of-c.ensures in
    let p = c.row_place-p.result in
    (counted, low-inside counted (family_of p.kind).set p (row_inside c.counts_of-c.result c.row_place-p.ensures.0).1)

pub returns-clause-member : goal.returns-clause-member
returns-clause-member c = numbered-read _ c.counts_of-c.ensures row_boxes c.row_place-p.ensures

pub returns-clause-said : goal.returns-clause-said
unfolding row_words
returns-clause-said c =
    rw (counts-read _ c.counts_of-c.ensures, ← c.family_at-f.ensures)
    (said-joined _ _ _ _ c.say_with.ensures
    (said-joined _ _ _ _ c.say_equation.ensures
    (said-joined _ _ _ _ c.say_name.ensures
    c.say_place.ensures)))
