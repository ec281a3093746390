use native.Mathlib.Omega.{arith}
use Rattle.model.specs.Standing.{reserve_in⁺, reserve_in⁻}
use Rattle.column_terms.proofs.Laws.{none-priced, add-priced, take-priced, priced-as}
use Rattle.dispatch_columns.proofs.reserve_column.Goals as goal

pub returns : goal.returns
unfolding reserve_in⁺ reserve_in⁻
returns c =
    priced-as (take-priced (take-priced (add-priced (none-priced c.none.ensures) c.add_row.ensures) c.take_row.ensures) c.take_row-2.ensures) _ _
    (λ m. rw c.zone_of-z.ensures.0 (omega arith))
    (λ m. omega arith)
