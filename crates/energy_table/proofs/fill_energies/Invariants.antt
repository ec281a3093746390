use mathlib.Core.List.{List}
use Prim.Native.Nat.{ℕ, ◌+◌, ◌*◌, ◌-◌, ◌≤◌}
use Rattle.model.specs.declared.Counts.{Counts}
use Rattle.model.specs.Data.{read}
use Rattle.tables.specs.Layout.{plan_entry}
use Rattle.energy_table.proofs.Laws.{season_energy, Filled}
use Rattle.energy_table.proofs.fill_energies.Given as goal

-- Each loop keeps filled the place of every year, plant and season before its own.
abbrev pub UpTo : List ℕ → List ℕ → Counts → List (List ℕ) → ℕ → Type 0
UpTo «data» plan c energy place = Filled (season_energy (read «data») (plan_entry c plan)) c.plants c.seasons energy place

abbrev pub invariant-loop-q : goal.invariant-loop-q
invariant-loop-q l = (l.q ≤ l.case.plan.counts.seasons) × UpTo l.case.tables.list.now l.case.plan.list.now l.case.plan.counts l.energy ((l.y * l.case.plan.counts.plants + l.g) * l.case.plan.counts.seasons + l.q)

abbrev pub decreases-loop-q : goal.decreases-loop-q
decreases-loop-q l = l.case.plan.counts.seasons - l.q

abbrev pub invariant-loop-g : goal.invariant-loop-g
invariant-loop-g l = (l.g ≤ l.case.plan.counts.plants) × UpTo l.case.tables.list.now l.case.plan.list.now l.case.plan.counts l.energy ((l.y * l.case.plan.counts.plants + l.g) * l.case.plan.counts.seasons)

abbrev pub decreases-loop-g : goal.decreases-loop-g
decreases-loop-g l = l.case.plan.counts.plants - l.g

abbrev pub invariant-loop-y : goal.invariant-loop-y
invariant-loop-y l = (l.y ≤ l.case.plan.counts.years) × UpTo l.case.tables.list.now l.case.plan.list.now l.case.plan.counts l.energy (l.y * l.case.plan.counts.plants * l.case.plan.counts.seasons)

abbrev pub decreases-loop-y : goal.decreases-loop-y
decreases-loop-y l = l.case.plan.counts.years - l.y
