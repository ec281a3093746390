use mathlib.Core.Path.{sym, ap, ◌∙◌}
use Rattle.sums.specs.Index.{number, index_of}
use Rattle.model.specs.declared.Counts.{Counts}
use Rattle.model.specs.Families.{row_boxes}
use Rattle.verdicts.proofs.RowVerdicts.{verdict-is}
use Rattle.row_tests.proofs.test_row.Goals as goal

pub returns : goal.returns
returns c =
    let a = c.args in
    let case = c.args.year.now.tested.case.now in
    let counts = case.same_counts ∙ sym case.tables.laid_out.counts in
    c.verdict.ensures ∙ verdict-is _ _ _ (index_of c.args.p) c.row_sides-sides.ensures c.requires.1.1.1.0
    (c.requires.1.1.1.1 ∙ ap (λ (c : Counts). number (row_boxes c) (index_of a.p)) counts)
