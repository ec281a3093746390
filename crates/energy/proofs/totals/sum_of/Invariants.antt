use mathlib.Core.Path.{◌≡◌}
use mathlib.Core.Bool.{Bool}
use Prim.Native.Nat.{ℕ, ◌-◌, ◌≤◌, ◌<◌}
use Rattle.capped.specs.Cap.{both, Sum}
use Rattle.energy.specs.Energies.{all_if}
use Rattle.energy.proofs.totals.sum_of.Given as goal

abbrev pub invariant-loop-i : goal.invariant-loop-i
invariant-loop-i g l =
    (l.i ≤ l.fn.n)
    × ((p : ℕ → Bool) (f : ℕ → Sum) → ((i : ℕ) (b : Bool) → i < l.fn.n → goal.P-post g l.fn.test i b → b ≡ p i) → ((i : ℕ) (s r : Sum) → i < l.fn.n → goal.F-post g l.fn.add s i r → r ≡ both s (f i))
    → l.sum ≡ all_if l.i p f)

abbrev pub decreases-loop-i : goal.decreases-loop-i
decreases-loop-i g l = l.fn.n - l.i
