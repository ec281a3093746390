use Rattle.std.proofs.Common.{rules}
use mathlib.Core.Path.{◌≡◌}
use mathlib.Core.Bool.{◌&&◌}
use native.Mathlib.Omega.{arith}
use Rattle.model.specs.Standing.{cap_in_slice⁺}
use Rattle.sums.proofs.Tests.{on_both}
use Rattle.capacity_columns.specs.Groups.{rates_of, cap_in_slice⁻}
use Rattle.column_terms.proofs.Laws.{counts_of, none-priced, add-priced, add-priced-if, take-priced-if, priced-as}
use Rattle.capacity_columns.proofs.cap_in_slice.Goals as goal

pub returns : goal.returns
unfolding cap_in_slice⁺ cap_in_slice⁻ rates_of
returns c =
    let charges : c.if-rates.charging ≡ (c.args.rates.battery && c.after_first_hour-ramps.result) = search rules in
    let t2 = add-priced (add-priced (none-priced c.none.ensures) c.add_row.ensures) c.add_row-2.ensures in
    let t5 = add-priced-if (add-priced-if (add-priced-if t2 _ c.add_row_if.ensures) _ c.add_row_if-2.ensures) _ c.add_row_if-3.ensures in
    let t7 = add-priced-if (take-priced-if t5 _ c.take_row_if.ensures) _ c.add_row_if-4.ensures in
    priced-as (add-priced-if (add-priced-if t7 _ c.add_row_if-5.ensures) _ c.add_row_if-6.ensures) _ _
    (λ m. rw (charges, on_both, on_both, counts_of c.args.pricing.now, c.requires.0, c.by_plant_slice-profile.ensures.0, c.after_first_hour-ramps.ensures) (omega arith))
    (λ m. rw (c.requires.0, c.on_min_load_day-least.ensures) (omega arith))
