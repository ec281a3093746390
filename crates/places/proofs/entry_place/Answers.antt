use borrow.Author.Rules.{rules}
use Rattle.model.specs.Data.{table_boxes, place_of, data_length}
use Rattle.places.proofs.Laws.{starts-around, wide, table-starts-are, table-box}
use Rattle.places.proofs.entry_place.Goals as goal

pub place_in-requires-clause-around : goal.place_in-requires-clause-around
unfolding data_length
place_in-requires-clause-around c =
    let starts = table-starts-are c.args.c c.table_starts-starts.result c.table_starts-starts.ensures in
    starts-around starts c.requires.1.0 c.requires.1.1

pub place_in-requires-clause-wide : goal.place_in-requires-clause-wide
unfolding table_boxes
place_in-requires-clause-wide c =
    let starts = table-starts-are c.args.c c.table_starts-starts.result c.table_starts-starts.ensures in
    wide starts (λ k b l e. table-box c.args.c l (search rules))

pub returns : goal.returns
unfolding table_boxes place_of
returns c =
    let starts = table-starts-are c.args.c c.table_starts-starts.result c.table_starts-starts.ensures in
    c.place_in.ensures _ _ starts (λ k b l e. table-box c.args.c l (search rules))
