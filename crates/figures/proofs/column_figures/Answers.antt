use Rattle.sums.specs.Index.{index_of}
use Rattle.model.specs.Data.{read}
use Rattle.data_tests.proofs.Passed.{sound-head, sound-entries}
use Rattle.figures.proofs.Laws.{short-is}
use Rattle.figures.proofs.column_figures.Goals as goal

pub lay_out-tables-requires : goal.lay_out-tables-requires
lay_out-tables-requires c = sound-head _ c.requires.0

pub invariant_of-tested : goal.invariant_of-tested
invariant_of-tested c = record { tested = rw c.lay_out-tables.ensures (sound-entries _ c.requires.0) }

pub returns : goal.returns
returns c =
    let a = c.args in
    let figures = rw (c.lay_out-tables.ensures, c.lay_out_multipliers-multipliers.ensures.0) at c.priced_at.ensures in
    (figures, λ n e. short-is (read a.«data».now) a.multipliers.now (index_of a.p) figures e)
