use Rattle.capacity_columns.proofs.Groups.{cap-together⁺, cap-together⁻}
use Rattle.tables.specs.Lists.{data_of}
use Rattle.column_terms.proofs.Laws.{counts_of, join-priced, priced-as}
use Rattle.capacity_columns.proofs.cap_column.Goals as goal

pub returns : goal.returns
returns c =
    let a = c.args in
    let D = data_of a.pricing.now.tested.tables.now in
    let n = counts_of a.pricing.now in
    let two = join-priced (record { is = c.cap_in_slices-slices.ensures }) (record { is = c.cap_in_seasons-seasons.ensures }) c.join.ensures in
    priced-as (join-priced two (record { is = c.cap_in_year-year.ensures }) c.join-2.ensures)
    _ _ (λ m. cap-together⁺ D a.y a.g m n) (λ m. cap-together⁻ D a.y a.g m n)
