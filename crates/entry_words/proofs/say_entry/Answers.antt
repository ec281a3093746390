use lib.ListN.{get_or}
use Rattle.writer.proofs.Laws.{said-joined}
use Rattle.data_tests.proofs.Passed.{passed-long, passed-counts, counts-read}
use Rattle.tables.specs.Layout.{Counted, table_sets}
use Rattle.tables.proofs.Members.{entry-inside}
use Rattle.sentences.specs.Sentences.{entry_words}
use Rattle.index_words.proofs.Laws.{low-inside}
use Rattle.entry_words.proofs.say_entry.Goals as goal

pub counts_of-c-requires : goal.counts_of-c-requires
counts_of-c-requires c = passed-long _ c.requires.0

pub entry_place-p-requires : goal.entry_place-p-requires
entry_place-p-requires c =
    (rw c.counts_of-c.ensures (passed-counts _ c.requires.0), (c.requires.1.0, rw (← counts-read c.args.«data».now c.counts_of-c.ensures) c.requires.1.1))

pub table_set-set-requires : goal.table_set-set-requires
table_set-set-requires c = (entry-inside c.counts_of-c.result c.entry_place-p.ensures.0).0

pub say_place-requires : goal.say_place-requires
say_place-requires c =
    let counted : Counted c.counts_of-c.result = rw c.counts_of-c.ensures (passed-counts _ c.requires.0) in
    let p = c.entry_place-p.result in
    (counted, low-inside counted (get_or table_sets p.kind 0) p (entry-inside c.counts_of-c.result c.entry_place-p.ensures.0).1)

pub returns-clause-member : goal.returns-clause-member
returns-clause-member c = rw (counts-read c.args.«data».now c.counts_of-c.ensures) c.entry_place-p.ensures

pub returns-clause-said : goal.returns-clause-said
unfolding entry_words
returns-clause-said c =
    rw (counts-read _ c.counts_of-c.ensures, ← c.table_set-set.ensures)
    (said-joined _ _ _ _ c.say_with.ensures
    (said-joined _ _ _ _ c.say.ensures
    (said-joined _ _ _ _ c.say_name.ensures
    c.say_place.ensures)))
