use mathlib.Core.Path.{ap, ◌∙◌}
use Rattle.sums.specs.Index.{count}
use Rattle.model.specs.declared.Counts.{Counts}
use Rattle.model.specs.Columns.{column_boxes}
use Rattle.model.specs.Data.{read}
use Rattle.model.specs.Calls.{replaced}
use Rattle.data_tests.proofs.Passed.{passed-long, sound-head, counts-sound, counts-read}
use Rattle.boards.proofs.Laws.{board-tested, board-refused, board-written, outputs-are, places-are, years-are}
use Rattle.boards.proofs.put_year.Goals as goal

pub counts_of-counts-requires : goal.counts_of-counts-requires
counts_of-counts-requires c = passed-long _ (sound-head _ c.requires.0)

pub slices_of-requires : goal.slices_of-requires
slices_of-requires c = counts-sound _ c.requires.0 c.counts_of-counts.ensures

pub returns-then-not-board_fits : goal.returns-then-not-board_fits
returns-then-not-board_fits c =
    let D = read c.args.«data».now in
    let e = counts-read c.args.«data».now c.counts_of-counts.ensures in
    let n = c.slices_of.ensures.0 in
    board-refused _ _ _ _ _ (board-tested D _ _ _ c.board_fits.ensures (years-are D e) (places-are D e n)) c.if-not-board_fits.true

pub lay_out_plan-plan-requires : goal.lay_out_plan-plan-requires
lay_out_plan-plan-requires c =
    (counts-sound _ c.requires.0 c.counts_of-counts.ensures, c.requires.1 ∙ ap (λ (d : Counts). count (column_boxes d)) (counts-read c.args.«data».now c.counts_of-counts.ensures))

pub returns : goal.returns
returns c =
    let D = read c.args.«data».now in
    let e = counts-read c.args.«data».now c.counts_of-counts.ensures in
    let n = c.slices_of.ensures.0 in
    let part = outputs-are D c.lay_out_plan-plan.result _ e c.lay_out_plan-plan.ensures c.lay_out_plan-plan.result.laid_out c.plan_part.ensures.lies in
    board-written _ _ _ _ _ (board-tested D _ _ _ c.board_fits.ensures (years-are D e) (places-are D e n)) c.if-not-board_fits.false
    (c.replace.ensures ∙ ap (replaced c.args.board.now c.args.start) part)
