-- The first four bytes of a line. Assumes nothing.
use mathlib.Core.List.{List}
use mathlib.Core.Path.{◌≡◌}
use Prim.Native.Nat.{ℕ, ◌<◌}
use lib.ListN.{get_or}
use Rattle.std.specs.List.{slice_range}
use Rattle.std.proofs.lemmas.List.{get_or-take}

pub first_four : (l part : List ℕ) (k : ℕ) → part ≡ slice_range l 0 4 → k < 4 → get_or part k 0 ≡ get_or l k 0
first_four l part k e h = rw e (get_or-take 4 l k 0 h)
