use native.Mathlib.Omega.{arith}
use Rattle.column_terms.proofs.Laws.{none-priced, add-priced, priced-as}
use Rattle.zone_columns.proofs.shortfall_column.Goals as goal

pub returns : goal.returns
returns c = priced-as (add-priced (none-priced c.none.ensures) c.add_row.ensures) _ _ (λ m. omega arith) (λ m. omega arith)
