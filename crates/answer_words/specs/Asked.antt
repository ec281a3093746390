-- What stands where certify refuses, by refusal.
use Rattle.std.specs.Prelude.{List, ℕ, ℤ, Result, Ok, Err}
use Rattle.model.specs.declared.Certificate.{Certificate}
use Rattle.model.specs.declared.Refusal.{Refusal}
use Rattle.model.specs.declared.Refusal.TheVariants.{Shape, DataLength, Entry, Scale, PlanLength, RowOffScale, Broken, CostOffScale, MultiplierCount, Multiplier, ColumnOffScale, Underpriced, GapOffScale, Board, Frame, Storage}
use Rattle.sentences.specs.Asked.{OfRow, OfMultiplier, OfColumn, OfEntry, OfPlant, OfCount}

-- data, plan, multipliers and the refusal; a refusal without a place asks nothing, nor does one whose figure is a length; 14 certify never answers (`refused-asked` in crates/explanations/proofs/Refused.antt)
abbrev pub Asked : List ℕ → List ℕ → List ℤ → Refusal → Type 0
Asked l plan ms (Shape i) = OfCount l i
Asked l plan ms (DataLength n) = Unit {0}
Asked l plan ms (Entry e) = OfEntry l e
Asked l plan ms Scale = Unit {0}
Asked l plan ms (PlanLength n) = Unit {0}
Asked l plan ms (RowOffScale r) = OfRow l plan r
Asked l plan ms (Broken r) = OfRow l plan r
Asked l plan ms CostOffScale = Unit {0}
Asked l plan ms (MultiplierCount n) = Unit {0}
Asked l plan ms (Multiplier r) = OfMultiplier l ms r
Asked l plan ms (ColumnOffScale c) = OfColumn l ms c
Asked l plan ms (Underpriced c) = OfColumn l ms c
Asked l plan ms GapOffScale = Unit {0}
Asked l plan ms Board = ⊥
Asked l plan ms (Frame n) = Unit {0}
Asked l plan ms (Storage g) = OfPlant l g

-- the same of an answer
abbrev pub AskedOf : List ℕ → List ℕ → List ℤ → Result Certificate Refusal → Type 0
AskedOf l plan ms (Ok certificate) = Unit {0}
AskedOf l plan ms (Err r) = Asked l plan ms r
