-- The terms m·k of rows as the code sums them, by sign, and what it answers of their sums.
use Rattle.model.specs.declared.Refusal.{Refusal}
use Rattle.model.specs.Calls.{issued}
use Rattle.model.specs.declared.Certificate.{Certificate}
use Rattle.std.specs.Prelude.{cond, List, ℕ, ◌+◌, ◌*◌, ◌-◌, ℤ, Result, Ok, Err}
use Rattle.capped.specs.Cap.{cap, plus}
use Rattle.compared.specs.Compared.{Balance}
use Rattle.compared.specs.declared.NoBalance.TheVariants.{BelowZero, Unsure}
use Rattle.sums.specs.declared.Box.{Box}
use Rattle.sums.specs.Index.{Index, box, box_of}
use Rattle.model.specs.declared.Counts.{Counts}
use Rattle.model.specs.declared.Refusal.TheVariants.{GapOffScale}
use Rattle.model.specs.Data.{Data}
use Rattle.model.specs.Families.{row_boxes}
use Rattle.model.specs.Tests.{constant⁺, constant⁻, m⁺, m⁻, constants⁺, constants⁻}
use Rattle.constants.specs.declared.Constant.{Constant}
use Rattle.constants.specs.Constants.{has_constant}
use Rattle.duals.specs.declared.Multiplier.{Multiplier}
use Rattle.column_terms.specs.declared.Pair.{Pair}

-- two exact sums
abbrev pub capped : ℕ → ℕ → Pair
capped u d = record { up = cap u; down = cap d }

-- more terms of each sign
abbrev pub more : Pair → ℕ → ℕ → Pair
more t u d = record { up = plus t.up u; down = plus t.down d }

-- the term m·k of a multiplier and a constant that adds and takes off, like terms of the constant brought together
unfoldable pub with_row : Pair → Multiplier → Constant → Pair
with_row t m k =
    more t (m.up * (k.adds - k.takes) + m.down * (k.takes - k.adds)) (m.up * (k.takes - k.adds) + m.down * (k.adds - k.takes))

module _ (D : Data) (ms : List ℤ) where
  -- a row's term m·k, where it is above zero and where it is below
  unfoldable pub term⁺ : Index → ℕ
  term⁺ r = m⁺ D ms r * constant⁺ D r + m⁻ D ms r * constant⁻ D r

  unfoldable pub term⁻ : Index → ℕ
  term⁻ r = m⁺ D ms r * constant⁻ D r + m⁻ D ms r * constant⁺ D r

  unfoldable pub with_term : Pair → Index → Pair
  with_term t r = more t (term⁺ r) (term⁻ r)

  -- the terms of all rows
  unfoldable pub terms_of : Pair
  terms_of = capped (constants⁺ D ms) (constants⁻ D ms)

-- a family's index set, with no members where its rows have no constant
unfoldable pub walked_box : Counts → ℕ → Box
walked_box c k = cond (has_constant k) (box_of (row_boxes c) k) (box 0 0 0 0)

-- the certificate of a cost and of what is left of it with all terms N·m·k; a gap below zero counts as 0
unfoldable pub settled : ℕ → Balance → Result Certificate Refusal
settled c (Ok g) = issued c g
settled c (Err BelowZero) = issued c 0
settled c (Err Unsure) = Err GapOffScale
