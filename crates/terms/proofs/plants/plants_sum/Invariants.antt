use mathlib.Core.Path.{◌≡◌}
use mathlib.Core.Bool.{Bool}
use Prim.Native.Nat.{ℕ, ◌+◌, ◌*◌, ◌-◌, ◌<◌}
use lib.ListN.{get_or}
use Rattle.sums.specs.Sum.{on}
use Rattle.model.specs.Counts.{slices_of}
use Rattle.terms.proofs.Laws.{Summed}
use Rattle.terms.proofs.plants.plants_sum.Given as goal

abbrev pub invariant-loop-g : goal.invariant-loop-g
invariant-loop-g g l = (p : ℕ → Bool) → ((i : ℕ) (b : Bool) → i < l.tables.counts.plants → goal.P-post g l.fn.here i b → b ≡ p i)
    → Summed l.tables.counts.plants (λ i. on (p i) (l.factor * get_or l.part (i * slices_of l.tables.counts + l.s) 0)) l.g l.sum

abbrev pub decreases-loop-g : goal.decreases-loop-g
decreases-loop-g g l = l.tables.counts.plants - l.g
