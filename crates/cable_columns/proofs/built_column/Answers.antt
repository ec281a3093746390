use native.Mathlib.Omega.{arith}
use Rattle.model.specs.Standing.{built_in⁻}
use Rattle.column_terms.proofs.Laws.{none-priced, take-priced, priced-as}
use Rattle.cable_columns.proofs.built_column.Goals as goal

pub returns : goal.returns
unfolding built_in⁻
returns c D =
    priced-as (take-priced (take-priced (none-priced c.none.ensures) c.take_row.ensures) c.take_row-2.ensures)
    _ _ (λ m. omega arith) (λ m. omega arith)
