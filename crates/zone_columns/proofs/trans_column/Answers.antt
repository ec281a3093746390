use native.Mathlib.Omega.{arith}
use Rattle.model.specs.Standing.{trans_in⁺, trans_in⁻}
use Rattle.column_terms.proofs.Laws.{none-priced, take-priced, add-priced-if, take-priced-if, priced-as}
use Rattle.zone_columns.proofs.trans_column.Goals as goal

pub returns : goal.returns
unfolding trans_in⁺ trans_in⁻
returns c =
    let t2 = take-priced-if (add-priced-if (none-priced c.none.ensures) _ c.add_row_if.ensures) _ c.take_row_if.ensures in
    priced-as (take-priced-if (take-priced t2 c.take_row.ensures) _ c.take_row_if-2.ensures) _ _
    (λ m. rw c.delivered-kept.ensures (omega arith))
    (λ m. omega arith)
