use native.Mathlib.Omega.{arith}
use Rattle.dispatch_columns.specs.Groups.{gen_in_zone⁺, gen_in_zone⁻}
use Rattle.column_terms.proofs.Laws.{none-priced, add-priced, take-priced, take-priced-if, priced-as}
use Rattle.dispatch_columns.proofs.gen_in_zone.Goals as goal

pub returns : goal.returns
unfolding gen_in_zone⁺ gen_in_zone⁻
returns c =
    let z = c.zone_of-z.ensures.0 in
    let t2 = take-priced-if (add-priced (none-priced c.none.ensures) c.add_row.ensures) _ c.take_row_if.ensures in
    priced-as (take-priced (take-priced (take-priced t2 c.take_row.ensures) c.take_row-2.ensures) c.take_row-3.ensures) _ _
    (λ m. rw z (omega arith))
    (λ m. rw (z, c.fuel_of-f.ensures.0, c.single-err.ensures.0, c.hourly-heat.ensures, c.hourly-emitted.ensures, c.is_vre-vre.ensures) (omega arith))
