use native.Mathlib.Omega.{arith}
use Rattle.model.specs.Standing.{total_in⁺, total_in⁻}
use Rattle.column_terms.proofs.Laws.{counts_of, add-priced, add-priced-if, take-priced-if, priced-as}
use Rattle.cable_columns.proofs.total_column.Goals as goal

pub returns : goal.returns
unfolding total_in⁺ total_in⁻
returns c =
    let n = counts_of c.args.pricing.now in
    let t2 = take-priced-if (add-priced (record { is = c.total_in_slices.ensures }) c.add_row.ensures) _ c.take_row_if.ensures in
    priced-as (take-priced-if (add-priced-if t2 _ c.add_row_if.ensures) _ c.take_row_if-2.ensures) _ _ (λ m. rw n (omega arith)) (λ m. rw n (omega arith))
