use native.Mathlib.Omega.{arith}
use Rattle.capacity_columns.specs.Groups.{cap_in_year⁺, cap_in_year⁻}
use Rattle.column_terms.proofs.Laws.{counts_of, none-priced, add-priced, take-priced-if, priced-as}
use Rattle.capacity_columns.proofs.cap_in_year.Goals as goal

pub returns : goal.returns
unfolding cap_in_year⁺ cap_in_year⁻
returns c =
    let t2 = add-priced (add-priced (none-priced c.none.ensures) c.add_row.ensures) c.add_row-2.ensures in
    let t4 = take-priced-if (take-priced-if t2 _ c.take_row_if.ensures) _ c.take_row_if-2.ensures in
    priced-as (take-priced-if t4 _ c.take_row_if-3.ensures) _ _
    (λ m. rw (c.zone_of-z.ensures.0, c.by_plant-credit.ensures.0) (omega arith))
    (λ m. rw (counts_of c.args.pricing.now, c.weighted_annuity-annuity.ensures, c.out_of_service-out.ensures, c.is_existing-existing.ensures) (omega arith))
