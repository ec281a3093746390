use mathlib.Core.Path.{refl, sym, ◌∙◌}
use native.Mathlib.Omega.{arith}
use Rattle.model.specs.Standing.{level_in⁺, level_in⁻}
use Rattle.column_terms.proofs.Laws.{counts_of, plant-ramp, none-priced, add-priced, take-priced, take-priced-if, priced-as}
use Rattle.column_terms.proofs.Sound.{next-ramp}
use Rattle.storage_columns.proofs.level_column.Goals as goal

pub returns-then-not-is_battery : goal.returns-then-not-is_battery
unfolding level_in⁺ level_in⁻
returns-then-not-is_battery c =
    let other = sym c.is_battery.ensures ∙ c.if-not-is_battery.true in
    priced-as (take-priced (none-priced c.none.ensures) c.take_row-limit.ensures) _ _ (λ m. rw other (omega arith)) (λ m. rw other (omega arith))

pub take_row_if-requires : goal.take_row_if-requires
take_row_if-requires c = λ e. (next-ramp (plant-ramp c.requires {k = 20} (omega arith) refl) (sym c.after_first_hour-carried.ensures ∙ e)).own

pub returns : goal.returns
unfolding level_in⁺ level_in⁻
returns c =
    let t2 = add-priced (take-priced (none-priced c.none.ensures) c.take_row-limit.ensures) c.add_row.ensures in
    let battery = sym c.is_battery.ensures ∙ c.if-not-is_battery.false in
    priced-as (take-priced-if t2 _ c.take_row_if.ensures) _ _
    (λ m. rw battery (omega arith))
    (λ m. rw (battery, counts_of c.args.pricing.now, c.after_first_hour-carried.ensures) (omega arith))
