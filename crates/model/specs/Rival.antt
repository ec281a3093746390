-- A rival plan in Mths, and what a certificate says of it (demand 3).
use Rattle.std.specs.Prelude.{◌≡◌, List, ℕ, ◌+◌, ◌*◌, ◌≤◌, ◌<◌, ℤ, length, Ok, Err, Result}
use Rattle.sums.specs.Index.{Index, Member, count}
use Rattle.sums.specs.Duality.{Holds}
use Rattle.model.specs.declared.Certificate.{Certificate}
use Rattle.model.specs.declared.Refusal.{Refusal}
use Rattle.model.specs.Data.{Data, read}
use Rattle.model.specs.Columns.{column_boxes, entries}
use Rattle.model.specs.Families.{row_boxes, equal}
use Rattle.model.specs.Prices.{cost}
use Rattle.model.specs.Tests.{above, below}
use Rattle.model.specs.Calls.{cost_of}

-- every row of every family holds at scale M; the entries are any natural numbers
pub record Rival (D : Data) (M : ℕ) (x : Index → ℕ) : Type 0 where
  pub meets : (r : Index) → Member (row_boxes D.counts) r → Holds (equal r) (below D M x r) (above D M x r)

-- N·cost(rival) ≥ M·(cost − gap), written without a difference
abbrev pub Bounds : Data → ℕ → ℕ → ℕ → Type 0
Bounds D N c g = (M : ℕ) → 1 ≤ M → (x : Index → ℕ) → Rival D M x → M * c ≤ N * cost D x + M * g

-- what certify's answer promises: an issued certificate binds every rival plan over the same data
abbrev pub Binds : List ℕ → ℕ → Result Certificate Refusal → Type 0
Binds l N (Ok a) = Bounds (read l) N a.cost a.gap
Binds l N (Err r) = Unit {0}

-- a rival plan as a list: a number in Mths for each column, and it meets all the equations
pub record RivalPlan (l : List ℕ) (M : ℕ) (rival : List ℕ) : Type 0 where
  pub complete : length rival ≡ count (column_boxes (read l).counts)
  pub meets : Rival (read l) M (entries (read l) rival)

-- N times its cost is below M times the answered cost c
abbrev pub Cheaper : List ℕ → ℕ → ℕ → ℕ → List ℕ → Type 0
Cheaper l N c M rival = N * cost_of l rival < M * c
