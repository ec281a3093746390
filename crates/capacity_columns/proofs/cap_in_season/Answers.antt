use native.Mathlib.Omega.{arith}
use Rattle.capacity_columns.specs.Groups.{cap_in_season⁺}
use Rattle.column_terms.proofs.Laws.{none-priced, add-priced, priced-as}
use Rattle.capacity_columns.proofs.cap_in_season.Goals as goal

pub returns : goal.returns
unfolding cap_in_season⁺
returns c =
    priced-as (add-priced (none-priced c.none.ensures) c.add_row.ensures)
    _ _ (λ m. rw c.available_hours-hours.ensures (omega arith)) (λ m. omega arith)
