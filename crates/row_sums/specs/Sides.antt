-- What the row functions answer.
use Rattle.std.specs.Prelude.{ℕ, ◌*◌, ◌-◌}
use Rattle.capped.specs.Cap.{cap, plus, Sum}
use Rattle.sums.specs.Index.{Index, index}
use Rattle.sums.specs.Linear.{◌·◌, value}
use Rattle.model.specs.Data.{Data}
use Rattle.model.specs.Columns.{cap as cap_column}
use Rattle.model.specs.Families.{Equation, equation, ramp}
use Rattle.model.specs.Tests.{above, below, constant⁺, constant⁻}
use Rattle.constants.specs.declared.Constant.{Constant}
use Rattle.row_sums.specs.declared.Change.{Change}
use Rattle.row_sums.specs.declared.Change.TheVariants.{Fall, Rise}
use Rattle.row_sums.specs.declared.Sides.{Sides}

-- two numbers, each as a capped sum
abbrev pub sides : ℕ → ℕ → Sides
sides a b = record { above = cap a; below = cap b }

-- a number held at most to 0: a capped sum below, and nothing above
abbrev pub above_nothing : Sum → Sides
above_nothing s = record { above = cap 0; below = s }

-- a row's two sums; opened down to the family's equation, so that a proof names one definition
unfoldable pub sides_of : Data → ℕ → (Index → ℕ) → Index → Sides
unfolding above below constant⁺ constant⁻ equation
sides_of D N x r = sides (above D N x r) (below D N x r)

-- the two sums of an equation that has no constant
abbrev pub terms_of : Equation → (Index → ℕ) → Sides
terms_of e x = sides (value e.positive x) (value e.negative x)

-- of a slice and the one before it, the one whose column may not lie too far above the other's: the earlier where the fall is bound, the later where the
-- rise is; and the other of the two
abbrev pub high : Change → ℕ → ℕ
high Fall s = s - 1
high Rise s = s

abbrev pub low : Change → ℕ → ℕ
low Fall s = s
low Rise s = s - 1

-- a ramp over the hour before of a plant's column of kind k: rate·cap bounds its fall or its rise
abbrev pub ramp_of : Data → ℕ → ℕ → Change → ℕ → ℕ → ℕ → Equation
ramp_of D rate k change y g s = ramp D s (rate · cap_column y g) (index k y g 0 (high change s)) (index k y g 0 (low change s))

-- two sums and a constant that adds and takes off, like terms brought together
unfoldable pub sides_with : Sum → Sum → ℕ → Constant → Sides
sides_with a b N k = record { above = plus a (N * (k.adds - k.takes)); below = plus b (N * (k.takes - k.adds)) }
