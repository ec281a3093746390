use mathlib.Core.Path.{sym, ap, ◌∙◌}
use Rattle.sums.specs.Index.{index_of, number}
use Rattle.model.specs.declared.Counts.{Counts}
use Rattle.model.specs.Columns.{column_boxes}
use Rattle.tables.proofs.Members.{column-inside}
use Rattle.column_terms.proofs.Laws.{counts_of}
use Rattle.verdicts.proofs.ColumnVerdicts.{verdict-is}
use Rattle.pricing.proofs.test_column.Goals as goal

pub hours_of-requires : goal.hours_of-requires
hours_of-requires c = let m = column-inside _ (rw c.args.pricing.now.same_counts at c.requires.0) in (m.0, m.1.slice)

pub returns : goal.returns
returns c =
    let a = c.args in
    c.verdict.ensures
    ∙ verdict-is _ _ a.p (column-inside _ c.requires.0).0 c.column_sums-sums.ensures c.requires.1.0 c.hours_of.ensures c.scale-price.ensures
    (c.requires.1.1 ∙ ap (λ (c : Counts). number (column_boxes c) (index_of a.p)) (sym (counts_of a.pricing.now)))
