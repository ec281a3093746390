-- The terms m·a of a column by sign: the steps that make their two sums, and what the sums come to.
use Rattle.std.specs.Prelude.{Bool, true, false, List, map, ℕ, ◌+◌, ◌*◌, ◌<◌, ℤ, pos, length, get_or}
use Rattle.capped.specs.Cap.{cap, plus, both}
use Rattle.sums.specs.Index.{Index, number}
use Rattle.sums.specs.Linear.{Linear, value}
use Rattle.model.specs.declared.Counts.{Counts}
use Rattle.model.specs.declared.Family.{Family}
use Rattle.model.specs.Data.{Data}
use Rattle.model.specs.Families.{families, row_boxes}
use Rattle.model.specs.Tests.{priced⁺, priced⁻}
use Rattle.tables.specs.Layout.{Inside}
use Rattle.duals.specs.declared.Multiplier.{Multiplier}
use Rattle.duals.specs.Multipliers.{multiplier_of}
use Rattle.column_terms.specs.declared.Pair.{Pair}

-- no terms
unfoldable pub no_terms : Pair
no_terms = record { up = cap 0; down = cap 0 }

-- the terms of two pairs
unfoldable pub joined : Pair → Pair → Pair
joined p q = record { up = both p.up q.up; down = both p.down q.down }

-- one more term, of the coefficient a
unfoldable pub added : Pair → ℕ → Multiplier → Pair
added p a m = record { up = plus p.up (a * m.up); down = plus p.down (a * m.down) }

-- one more term, of the coefficient −a
unfoldable pub taken : Pair → ℕ → Multiplier → Pair
taken p a m = record { up = plus p.up (a * m.down); down = plus p.down (a * m.up) }

-- where a test holds
unfoldable pub added_if : Bool → Pair → ℕ → Multiplier → Pair
added_if true p a m = added p a m
added_if false p a m = p

unfoldable pub taken_if : Bool → Pair → ℕ → Multiplier → Pair
taken_if true p a m = taken p a m
taken_if false p a m = p

module _ (c : Counts) (ms : List ℤ) where
  -- a row's multiplier, by the counts alone; over data with these counts it is `multiplier`
  unfoldable pub row_multiplier : Index → Multiplier
  row_multiplier r = multiplier_of (get_or ms (number (row_boxes c) r) (pos 0))

  -- the terms of a column that has the coefficients a in its rows, and those of −b
  unfoldable pub pair_of : Linear → Linear → Pair
  pair_of a b = record {
    up = cap (value a (λ r. (row_multiplier r).up) + value b (λ r. (row_multiplier r).down));
    down = cap (value a (λ r. (row_multiplier r).down) + value b (λ r. (row_multiplier r).up));
  }

-- the terms of a column, as the tests have them
unfoldable pub priced_pair : Data → List ℤ → Index → Pair
priced_pair D ms c = record { up = cap (priced⁺ D ms c); down = cap (priced⁻ D ms c) }

-- the code of each family's index set
abbrev pub family_sets : List ℕ
family_sets = map (λ (f : Family). f.set) families

-- the multiplier of row y, i, j, s of family k can be read
pub record RowAt (c : Counts) (k y i j s : ℕ) : Type 0 where
  pub family : k < length family_sets
  pub inside : Inside c (get_or family_sets k 0) y i j s
