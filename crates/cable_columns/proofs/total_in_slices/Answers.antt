use Rattle.std.proofs.Common.{rules}
use mathlib.Core.Path.{sym, ◌∙◌}
use native.Mathlib.Omega.{arith}
use Rattle.sums.specs.Linear.{nothing}
use Rattle.sums.proofs.Sums.{sum-const-zero}
use Rattle.model.specs.Standing.{total_in_slice⁺}
use Rattle.tables.specs.Lists.{data_of}
use Rattle.column_terms.proofs.Laws.{none-priced, priced-as}
use Rattle.cable_columns.proofs.Groups.{no_power}
use Rattle.cable_columns.proofs.total_in_slices.Goals as goal

pub returns-then-power-eq0 : goal.returns-then-power-eq0
returns-then-power-eq0 c =
    priced-as (none-priced c.none.ensures) _ _ (λ m. no_power _ _ _ _ _ m (sym c.by_pair-power.ensures.0 ∙ c.if-power-eq0.true)) (λ m. omega arith)

pub returns : goal.returns
returns c =
    let a = c.args in
    let terms = total_in_slice⁺ (data_of a.pricing.now.tested.tables.now) a.y a.z a.w in
    let power = c.by_pair-power.ensures.0 in
    let all = c.total.ensures a.pricing.now.multipliers.counts a.pricing.now.multipliers.list.now terms (λ _. nothing) (λ i r l e. search rules) in
    rw (← c.slices_of-n.ensures.0) (priced-as (record { is = all }) _ _ (λ m. omega arith) (λ m. sum-const-zero _))
