-- The ramps of a column, by the counts alone.
use Rattle.std.specs.Prelude.{◌≡◌, ℕ, ◌+◌, ◌%◌, ltb, get_or}
use Rattle.sums.specs.Index.{index, box_of}
use Rattle.sums.specs.Linear.{Linear, ◌·◌, ◌⊕◌, when}
use Rattle.model.specs.declared.Counts.{Counts}
use Rattle.model.specs.Counts.{sets, slices_of}
use Rattle.column_terms.specs.Pairs.{family_sets, RowAt}

-- a ramp row joins a slice to the one before it in its day: t > 0
abbrev pub ramped : Counts → ℕ → Linear → Linear
ramped c s e = when (ltb 0 (s % c.hours)) e

-- the model's `ramps_in` by the counts alone, over families counted from 0, of plant or zone i: one family's row of the slice, the other's of the next
unfoldable pub in_ramps : Counts → ℕ → ℕ → ℕ → ℕ → ℕ → Linear
in_ramps c fall rise y i s = ramped c s (1000 · index fall y i 0 s) ⊕ ramped c (s + 1) (1000 · index rise y i 0 (s + 1))

-- the rows of such a family, k, over the index set `set`, can be read: that of the slice, and so the next one's, where the day goes on
pub record RampAt (c : Counts) (set k y i s : ℕ) : Type 0 where
  pub own : RowAt c k y i 0 s
  pub over : get_or family_sets k 0 ≡ set
  pub slices : (box_of (sets c) set).slices ≡ slices_of c
