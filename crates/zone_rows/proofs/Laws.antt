-- A sum over the plants of a zone, from a year's part. Assumes nothing.
use mathlib.Core.Path.{◌≡◌, ap, ◌∙◌}
use mathlib.Core.List.{List}
use Prim.Native.Nat.{ℕ, ◌+◌, ◌*◌, ◌<◌}
use lib.ListN.{get_or}
use Rattle.capped.specs.Cap.{cap, Sum}
use Rattle.sums.specs.Sum.{sum}
use Rattle.sums.specs.Index.{index}
use Rattle.sums.proofs.Sums.{sum-cong}
use Rattle.model.specs.declared.Counts.{Counts}
use Rattle.model.specs.Counts.{slices_of}
use Rattle.tables.specs.Layout.{plan_entry}
use Rattle.parts.specs.Years.{YearPart}

-- a year's part stands for the plan, in a sum over the plants
pub part-sum : {plan part : List ℕ} {c d : Counts} {t y s : ℕ} → YearPart plan part c t y → c ≡ d → s < slices_of c
    → {r : Sum} (F : ℕ → ℕ → ℕ) → r ≡ cap (sum d.plants (λ g. F g (get_or part (g * slices_of d + s) 0)))
    → r ≡ cap (sum c.plants (λ g. F g (plan_entry c plan (index t y g 0 s))))
part-sum p same h F e = e ∙ rw (← same) (ap cap (sum-cong _ (λ g l. ap (F g) (p.is g _ l h))))
