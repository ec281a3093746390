use native.Mathlib.Omega.{arith}
use Rattle.column_terms.proofs.Laws.{none-priced, take-priced, priced-as}
use Rattle.zone_columns.proofs.surplus_column.Goals as goal

pub returns : goal.returns
returns c = priced-as (take-priced (none-priced c.none.ensures) c.take_row.ensures) _ _ (λ m. omega arith) (λ m. omega arith)
