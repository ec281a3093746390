use mathlib.Core.Path.{sym, ◌∙◌}
use native.Mathlib.Omega.{arith}
use Rattle.model.specs.Standing.{charge_in⁺, charge_in⁻}
use Rattle.tables.specs.Lists.{data_of}
use Rattle.column_terms.proofs.Laws.{counts_of, none-priced, take-priced, join-priced, priced-as, ramps-are}
use Rattle.storage_columns.proofs.charge_column.Goals as goal

pub returns-then-not-is_battery : goal.returns-then-not-is_battery
unfolding charge_in⁺ charge_in⁻
returns-then-not-is_battery c =
    let other = sym c.is_battery.ensures ∙ c.if-not-is_battery.true in
    priced-as (take-priced (take-priced (none-priced c.none.ensures) c.take_row.ensures) c.take_row-common.ensures) _ _
    (λ m. rw other (omega arith))
    (λ m. rw (other, c.zone_of-z.ensures.0) (omega arith))

pub returns : goal.returns
unfolding charge_in⁺ charge_in⁻
returns c =
    let ramps = ramps-are (data_of c.args.pricing.now.tested.tables.now) (counts_of c.args.pricing.now) in
    let battery = sym c.is_battery.ensures ∙ c.if-not-is_battery.false in
    let t3 = take-priced (take-priced (take-priced (none-priced c.none.ensures) c.take_row.ensures) c.take_row-common.ensures) c.take_row-2.ensures in
    priced-as (join-priced t3 (record { is = c.in_ramps-ramps.ensures }) c.join.ensures) _ _
    (λ m. rw (battery, ramps) (omega arith))
    (λ m. rw (battery, ramps, c.zone_of-z.ensures.0, c.by_plant-efficiency.ensures.0) (omega arith))
