use native.Mathlib.Omega.{arith}
use borrow.Author.Rules.{rules}
use Rattle.model.specs.Columns.{column_boxes}
use Rattle.places.proofs.Laws.{starts-around, wide, column-starts-are, column-box}
use Rattle.places.proofs.column_place.Goals as goal

pub place_in-requires-clause-around : goal.place_in-requires-clause-around
place_in-requires-clause-around c =
    let starts = column-starts-are c.args.c c.column_starts-starts.result c.column_starts-starts.ensures in
    starts-around starts (omega arith) (omega (arith, c.requires.1))

pub place_in-requires-clause-wide : goal.place_in-requires-clause-wide
unfolding column_boxes
place_in-requires-clause-wide c =
    let starts = column-starts-are c.args.c c.column_starts-starts.result c.column_starts-starts.ensures in
    wide starts (λ k b l e. column-box c.args.c l (search rules))

pub returns : goal.returns
unfolding column_boxes
returns c =
    let starts = column-starts-are c.args.c c.column_starts-starts.result c.column_starts-starts.ensures in
    let m = c.place_in.ensures _ _ starts (λ k b l e. column-box c.args.c l (search rules)) in
    (m.0, omega (arith, m.1))
