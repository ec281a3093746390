use mathlib.Core.Path.{sym, ◌∙◌}
use native.Mathlib.Omega.{arith}
use Rattle.column_terms.specs.Ramps.{in_ramps}
use Rattle.column_terms.proofs.Laws.{none-priced, add-priced-if, take-priced-if, priced-as}
use Rattle.column_terms.proofs.Sound.{next-ramp}
use Rattle.column_terms.proofs.ramps.in_ramps.Goals as goal

pub add_row_if-requires-2 : goal.add_row_if-requires-2
add_row_if-requires-2 c = λ e. (next-ramp c.requires.1 (sym c.after_first_hour-later.ensures ∙ e)).own

pub take_row_if-requires-2 : goal.take_row_if-requires-2
take_row_if-requires-2 c = λ e. (next-ramp c.requires.0 (sym c.after_first_hour-later.ensures ∙ e)).own

pub returns : goal.returns
unfolding in_ramps
returns c =
    let own = c.after_first_hour-own.ensures in
    let later = c.after_first_hour-later.ensures in
    let t2 = take-priced-if (add-priced-if (none-priced c.none.ensures) _ c.add_row_if.ensures) _ c.take_row_if.ensures in
    priced-as (take-priced-if (add-priced-if t2 _ c.add_row_if-2.ensures) _ c.take_row_if-2.ensures) _ _
    (λ m. rw (own, later) (omega arith))
    (λ m. rw (own, later) (omega arith))
