use native.Mathlib.Omega.{arith}
use Rattle.model.specs.Standing.{build_in⁻}
use Rattle.column_terms.proofs.Laws.{none-priced, take-priced-if, priced-as}
use Rattle.capacity_columns.proofs.build_column.Goals as goal

pub returns : goal.returns
unfolding build_in⁻
returns c =
    let t2 = take-priced-if (take-priced-if (none-priced c.none.ensures) _ c.take_row_if.ensures) _ c.take_row_if-2.ensures in
    priced-as (take-priced-if (take-priced-if t2 _ c.take_row_if-3.ensures) _ c.take_row_if-4.ensures) _ _
    (λ m. omega arith)
    (λ m. rw c.is_existing-existing.ensures (omega arith))
