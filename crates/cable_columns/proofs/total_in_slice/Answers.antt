use native.Mathlib.Omega.{arith}
use Rattle.model.specs.Standing.{total_in_slice⁺}
use Rattle.column_terms.proofs.Laws.{none-priced, add-priced, add-priced-if, priced-as}
use Rattle.cable_columns.proofs.total_in_slice.Goals as goal

pub returns : goal.returns
unfolding total_in_slice⁺
returns c D power =
    priced-as (add-priced-if (add-priced (none-priced c.none.ensures) c.add_row.ensures) _ c.add_row_if.ensures)
    _ _ (λ m. rw (← power) (omega arith)) (λ m. omega arith)
