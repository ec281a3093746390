use mathlib.Core.Path.{◌≡◌}
use Prim.Native.Nat.{ℕ, ◌≤◌, ◌<◌, ◌-◌, ◌+◌, ◌*◌}
use lib.ListN.{length, get_or}
use Rattle.sums.specs.Sum.{sum}
use Rattle.model.specs.Data.{most32}
use Rattle.tables.proofs.starts.starts_of.Given as goal

abbrev pub invariant-loop-k : goal.invariant-loop-k
invariant-loop-k g l = record {
  upto : l.k ≤ l.fn.n;
  whole : length l.starts ≡ g.row.N;
  few : l.next ≤ l.fn.from + l.k * most32;
  next : (f : ℕ → ℕ) → ((k r : ℕ) → k < l.fn.n → goal.F-post g l.fn.size k r → r ≡ f k) → l.next ≡ l.fn.from + sum l.k f;
  is : (f : ℕ → ℕ) → ((k r : ℕ) → k < l.fn.n → goal.F-post g l.fn.size k r → r ≡ f k) → (i : ℕ) → i < l.k + 1 → get_or l.starts i 0 ≡ l.fn.from + sum i f;
}

abbrev pub decreases-loop-k : goal.decreases-loop-k
decreases-loop-k g l = l.fn.n - l.k
