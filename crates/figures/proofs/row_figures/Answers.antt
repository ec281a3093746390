use mathlib.Core.Path.{sym, ap, ◌∙◌}
use Rattle.sums.specs.Index.{index_of}
use Rattle.model.specs.Families.{row_boxes}
use Rattle.data_tests.proofs.Passed.{sound-head, sound-entries, laid-counts}
use Rattle.tables.specs.declared.lists.Case.{Case}
use Rattle.tables.proofs.Members.{row_inside, year-inside}
use Rattle.figures.proofs.Laws.{counted-alike, row_told}
use Rattle.figures.proofs.row_figures.Goals as goal

pub lay_out-tables-requires : goal.lay_out-tables-requires
lay_out-tables-requires c = sound-head _ c.requires.0

pub invariant_of-tested : goal.invariant_of-tested
invariant_of-tested c = record { tested = rw c.lay_out-tables.ensures (sound-entries _ c.requires.0); energies = c.fill_energies.ensures }

pub year_of-year-requires : goal.year_of-year-requires
year_of-year-requires c =
    let counts = laid-counts c.lay_out-tables.result c.lay_out-tables.ensures in
    let own = counted-alike row_boxes (index_of c.args.p) (counts ∙ sym c.lay_out_plan-plan.ensures.1) c.requires.1.1 in
    year-inside c.lay_out_plan-plan.result.counted (row_inside c.lay_out_plan-plan.result.counts own).1

pub row_sides-requires : goal.row_sides-requires
row_sides-requires c =
    let counts = laid-counts c.lay_out-tables.result c.lay_out-tables.ensures in
    let same = ap (λ (k : Case). k.plan.counts) c.year_of-year.ensures.0 in
    let own = counted-alike row_boxes (index_of c.args.p) (counts ∙ sym c.lay_out_plan-plan.ensures.1 ∙ sym same) c.requires.1.1 in
    (sym c.year_of-year.ensures.1, row_inside _ own)

pub returns : goal.returns
returns c =
    let counts = laid-counts c.lay_out-tables.result c.lay_out-tables.ensures in
    row_told c.args.«data».now c.args.plan.now c.args.scale (index_of c.args.p) (counts ∙ sym c.lay_out_plan-plan.ensures.1)
    (rw (c.year_of-year.ensures.0, c.from.ensures, c.lay_out-tables.ensures, c.lay_out_plan-plan.ensures.0) at c.row_sides.ensures)
