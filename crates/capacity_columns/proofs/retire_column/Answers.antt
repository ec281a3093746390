use Rattle.std.proofs.Common.{rules}
use mathlib.Core.Path.{◌≡◌}
use mathlib.Core.Bool.{◌&&◌}
use lib.Dec.{ltb}
use native.Mathlib.Omega.{arith}
use Rattle.model.specs.Data.{existing}
use Rattle.model.specs.Standing.{retire_in⁺, retire_in⁻}
use Rattle.tables.specs.Lists.{data_of}
use Rattle.column_terms.proofs.Laws.{none-priced, add-priced-if, take-priced-if, priced-as}
use Rattle.capacity_columns.proofs.Groups.{not-later}
use Rattle.capacity_columns.proofs.retire_column.Goals as goal

pub returns : goal.returns
unfolding retire_in⁺ retire_in⁻
returns c =
    let a = c.args in
    let stands = existing (data_of a.pricing.now.tested.tables.now) a.g in
    let l : c.if-is_existing.later ≡ (stands && ltb 0 a.y) = search rules in
    priced-as (take-priced-if (add-priced-if (none-priced c.none.ensures) _ c.add_row_if.ensures) _ c.take_row_if.ensures) _ _
    (λ m. rw l (omega arith))
    (λ m. rw (l, not-later stands a.y) (omega arith))
