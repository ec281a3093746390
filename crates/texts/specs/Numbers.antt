-- What the reader's answers say of the numbers that it has read.
use Rattle.std.specs.Prelude.{cond, List, [], ◌∷◌, ℕ, suc, eqb}
use Rattle.texts.specs.declared.Numbers.{Numbers}
use Rattle.texts.specs.Format.{Lists, line_feed}

-- the numbers of each word
abbrev pub lists_in : Numbers → Lists
lists_in n = record { of_data = n.data.items; of_plan = n.plan.items; of_scal = n.scal.items; of_dual = n.dual.items }

-- the bytes before the first line feed, or all of them
unfoldable pub line_length : List ℕ → ℕ
line_length [] = 0
line_length (b ∷ bs) = cond (eqb b line_feed) 0 (suc (line_length bs))
