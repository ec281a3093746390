use Rattle.sums.specs.Index.{index_of}
use Rattle.model.specs.Data.{table_boxes}
use Rattle.data_tests.proofs.Passed.{laid-counts}
use Rattle.tables.proofs.Members.{entry-inside}
use Rattle.figures.proofs.Laws.{counted-alike, entry_in, entry-told}
use Rattle.figures.proofs.entry_figures.Goals as goal

pub range_at-range-requires : goal.range_at-range-requires
range_at-range-requires c =
    let counts = laid-counts c.lay_out-tables.result c.lay_out-tables.ensures in
    let inside = entry-inside _ (counted-alike table_boxes (index_of c.args.p) counts c.requires.1.0) in
    (inside.0, inside.1.first)

pub number_at-requires : goal.number_at-requires
number_at-requires c =
    entry_in (rw c.lay_out-tables.ensures at c.lay_out-tables.result.laid_out) c.requires.1.0 c.requires.1.1

pub returns : goal.returns
returns c =
    let p = c.args.p in
    entry-told c.args.«data».now p.kind p.year p.first p.second p.slice c.requires.1.1
    (rw c.lay_out-tables.ensures at c.range_at-range.ensures p.year p.slice) c.from.ensures c.from-2.ensures c.number_at.ensures.0
