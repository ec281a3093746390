use Rattle.tables.specs.Lists.{data_of}
use Rattle.column_terms.proofs.Laws.{counts_of, add-priced-if, join-priced, priced-as}
use Rattle.dispatch_columns.proofs.Groups.{gen-together⁺, gen-together⁻}
use Rattle.dispatch_columns.proofs.gen_column.Goals as goal

pub returns : goal.returns
returns c =
    let a = c.args in
    let D = data_of a.pricing.now.tested.tables.now in
    let n = counts_of a.pricing.now in
    let two = join-priced (record { is = c.gen_in_zone.ensures }) (record { is = c.gen_in_load.ensures }) c.join.ensures in
    priced-as (add-priced-if (join-priced two (record { is = c.in_ramps-ramps.ensures }) c.join-2.ensures) _ c.add_row_if.ensures)
    _ _ (λ m. rw c.is_battery-battery.ensures (gen-together⁺ D a.y a.g m a.s n)) (λ m. gen-together⁻ D a.y a.g m a.s n)
