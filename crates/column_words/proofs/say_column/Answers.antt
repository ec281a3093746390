use lib.ListN.{get_or}
use Rattle.writer.proofs.Laws.{said-joined}
use Rattle.model.specs.Columns.{column_sets, column_boxes}
use Rattle.data_tests.proofs.Passed.{passed-long, sound-head, counts-sound, counts-read}
use Rattle.tables.proofs.Members.{column-inside}
use Rattle.sentences.specs.Sentences.{column_words}
use Rattle.sentences.proofs.Laws.{numbered-asked, numbered-read}
use Rattle.index_words.proofs.Laws.{low-inside}
use Rattle.column_words.proofs.say_column.Goals as goal

pub counts_of-c-requires : goal.counts_of-c-requires
counts_of-c-requires c = passed-long _ (sound-head _ c.requires.0)

pub column_place-p-requires : goal.column_place-p-requires
column_place-p-requires c = numbered-asked _ c.requires.0 c.counts_of-c.ensures column_boxes c.requires.1

pub column_set-set-requires : goal.column_set-set-requires
column_set-set-requires c = (column-inside c.counts_of-c.result c.column_place-p.ensures.0).0

pub say_place-requires : goal.say_place-requires
say_place-requires c =
    let counted = counts-sound _ c.requires.0 c.counts_of-c.ensures in
    let p = c.column_place-p.result in
    (counted, low-inside counted (get_or column_sets p.kind 0) p (column-inside c.counts_of-c.result c.column_place-p.ensures.0).1)

pub returns-clause-member : goal.returns-clause-member
returns-clause-member c = numbered-read _ c.counts_of-c.ensures column_boxes c.column_place-p.ensures

pub returns-clause-said : goal.returns-clause-said
unfolding column_words
returns-clause-said c =
    rw (counts-read _ c.counts_of-c.ensures, ← c.column_set-set.ensures)
    (said-joined _ _ _ _ c.say_with.ensures
    (said-joined _ _ _ _ c.say.ensures
    (said-joined _ _ _ _ c.say_name.ensures
    c.say_place.ensures)))
