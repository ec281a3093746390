use native.Mathlib.Omega.{arith}
use Rattle.dispatch_columns.specs.Groups.{gen_in_load⁺, gen_in_load⁻}
use Rattle.column_terms.proofs.Laws.{counts_of, none-priced, take-priced, add-priced-if, take-priced-if, priced-as}
use Rattle.dispatch_columns.proofs.gen_in_load.Goals as goal

pub returns : goal.returns
unfolding gen_in_load⁺ gen_in_load⁻
returns c =
    let t2 = take-priced (add-priced-if (none-priced c.none.ensures) _ c.add_row_if.ensures) c.take_row.ensures in
    priced-as (take-priced-if (take-priced t2 c.take_row-2.ensures) _ c.take_row_if.ensures) _ _
    (λ m. rw c.on_min_load_day-least.ensures (omega arith))
    (λ m. rw (counts_of c.args.pricing.now, c.by_slice-hours.ensures.0, c.season_of-q.ensures.0, c.is_vre-vre.ensures) (omega arith))
