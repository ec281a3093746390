use native.Mathlib.Omega.{arith}
use borrow.Author.Rules.{rules}
use Rattle.model.specs.Families.{row_boxes}
use Rattle.duals.proofs.Shapes.{shaped}
use Rattle.places.proofs.Laws.{starts-around, wide, row-starts-are, row-box}
use Rattle.places.proofs.row_place.Goals as goal

pub row_starts-starts-requires : goal.row_starts-starts-requires
row_starts-starts-requires c = shaped c.requires.0 c.shape_of.ensures

pub place_in-requires-clause-around : goal.place_in-requires-clause-around
place_in-requires-clause-around c =
    let starts = row-starts-are c.args.c c.row_starts-starts.result c.shape_of.ensures c.row_starts-starts.ensures in
    starts-around starts (omega arith) (omega (arith, c.requires.1))

pub place_in-requires-clause-wide : goal.place_in-requires-clause-wide
unfolding row_boxes
place_in-requires-clause-wide c =
    let starts = row-starts-are c.args.c c.row_starts-starts.result c.shape_of.ensures c.row_starts-starts.ensures in
    wide starts (λ k b l e. row-box c.args.c l (search rules))

pub returns : goal.returns
unfolding row_boxes
returns c =
    let starts = row-starts-are c.args.c c.row_starts-starts.result c.shape_of.ensures c.row_starts-starts.ensures in
    let m = c.place_in.ensures _ _ starts (λ k b l e. row-box c.args.c l (search rules)) in
    (m.0, omega (arith, m.1))
