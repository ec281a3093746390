-- The groups of rows of the column gen, with its ramps, are together the rows that the model names. Assumes nothing.
use mathlib.Core.Path.{◌≡◌}
use Prim.Native.Nat.{ℕ}
use native.Mathlib.Omega.{arith}
use Rattle.sums.specs.Index.{Index}
use Rattle.sums.specs.Linear.{◌·◌, ◌⊕◌, when, value}
use Rattle.model.specs.declared.Counts.{Counts}
use Rattle.model.specs.Data.{Data, is_battery}
use Rattle.model.specs.Families.{row}
use Rattle.model.specs.Standing.{gen_in⁺, gen_in⁻}
use Rattle.column_terms.specs.Ramps.{in_ramps}
use Rattle.column_terms.proofs.Laws.{ramps-are}
use Rattle.dispatch_columns.specs.Groups.{gen_in_zone⁺, gen_in_zone⁻, gen_in_load⁺, gen_in_load⁻}

module _ (D : Data) (y g : ℕ) (m : Index → ℕ) where
  pub gen-together⁺ : (s : ℕ) {c : Counts} → D.counts ≡ c
      → value (gen_in_zone⁺ D y g s ⊕ gen_in_load⁺ D y g s ⊕ in_ramps c 6 7 y g s ⊕ when (is_battery D g) (1000 · row 21 y g 0 s)) m ≡ value (gen_in⁺ D y g s) m
  unfolding gen_in_zone⁺ gen_in_load⁺ gen_in⁺
  gen-together⁺ s e = rw (ramps-are D e) (omega arith)

  pub gen-together⁻ : (s : ℕ) {c : Counts} → D.counts ≡ c
      → value (gen_in_zone⁻ D y g s ⊕ gen_in_load⁻ D y g s ⊕ in_ramps c 7 6 y g s) m ≡ value (gen_in⁻ D y g s) m
  unfolding gen_in_zone⁻ gen_in_load⁻ gen_in⁻
  gen-together⁻ s e = rw (ramps-are D e) (omega arith)
