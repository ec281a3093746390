-- The stages of certify beside a cost, joined.
use Rattle.model.specs.declared.Certificate.{Certificate}
use Rattle.std.specs.Prelude.{Result, Ok, Err}
use mathlib.Core.Path.{◌≡◌, sym, ◌∙◌}
use Prim.Native.Nat.{ℕ}
use borrow.Author.Tests.{eqb-true}
use lib.IntN.{ℤ}
use lib.ListN.{length}
use mathlib.Core.List.{List}
use Rattle.sums.specs.Span.{Fault, or_else}
use Rattle.sums.specs.Index.{count}
use Rattle.model.specs.declared.Refusal.{Refusal}
use Rattle.model.specs.declared.Shape.{Shape}
use Rattle.model.specs.Data.{Data, read}
use Rattle.tables.specs.declared.lists.Tables.{Tables}
use Rattle.duals.proofs.Shapes.{shape-counts}
use Rattle.model.specs.Tests.{multiplier_count_fault, multipliers_fault, columns_fault, gap_fault, dual_fault, gap}
use Rattle.model.specs.Calls.{certificate, outcome}
use Rattle.sums.proofs.Spans.{or_else-fine}
use Rattle.model.specs.Families.{row_boxes, shape_of}
use Rattle.model.proofs.Sound.{passed}
use Rattle.tables.proofs.Steps.{outcome-fine}
use Rattle.data_tests.proofs.Passed.{laid-counts, refused-by, passed-by, in_two}

-- the counts of the sizes are those of the data
pub counts-laid : (t : Tables) {l : List ℕ} {shape : Shape} → t.list.now ≡ l → shape ≡ shape_of t.counts → (read l).counts ≡ shape.counts
counts-laid t e q = laid-counts t e ∙ sym (shape-counts q)

module _ (D : Data) (ms : List ℤ) (N cost : ℕ) where
  abbrev multiplier_tests : Fault Refusal
  multiplier_tests = or_else (multiplier_count_fault D ms) (multipliers_fault D ms)

  abbrev rest : Fault Refusal
  rest = or_else (columns_fault D ms) (gap_fault D ms N)

  stages : dual_fault D ms N ≡ or_else multiplier_tests rest
  unfolding dual_fault
  stages = sym (in_two (multiplier_count_fault D ms) (multipliers_fault D ms) rest)

  pub multipliers-refused : {o : Result (Unit {0}) Refusal} {r : Refusal} {v : Result Certificate Refusal} → o ≡ outcome multiplier_tests → o ≡ Err r → v ≡ Err r → v ≡ certificate (dual_fault D ms N) cost (gap D ms N cost)
  multipliers-refused e q n = n ∙ rw (stages, refused-by multiplier_tests rest e q)

  module _ {o : Result (Unit {0}) Refusal} (e : o ≡ outcome multiplier_tests) (q : o ≡ Ok tt) where
    pub multipliers-whole : length ms ≡ count (row_boxes D.counts)
    unfolding multiplier_count_fault
    multipliers-whole = eqb-true _ _ (passed _ _ (or_else-fine _ _ (outcome-fine _ e q)).0)

    pub columns-refused : {p : Result (Unit {0}) Refusal} {r : Refusal} {v : Result Certificate Refusal} → p ≡ outcome (columns_fault D ms) → p ≡ Err r → v ≡ Err r → v ≡ certificate (dual_fault D ms N) cost (gap D ms N cost)
    columns-refused h w n = n ∙ rw (stages, passed-by multiplier_tests rest (outcome-fine _ e q), refused-by (columns_fault D ms) (gap_fault D ms N) h w)

    pub columns-passed : {p : Result (Unit {0}) Refusal} {v : Result Certificate Refusal} → p ≡ outcome (columns_fault D ms) → p ≡ Ok tt
        → v ≡ certificate (gap_fault D ms N) cost (gap D ms N cost) → v ≡ certificate (dual_fault D ms N) cost (gap D ms N cost)
    columns-passed h w g = g ∙ rw (stages, passed-by multiplier_tests rest (outcome-fine _ e q), passed-by (columns_fault D ms) (gap_fault D ms N) (outcome-fine _ h w))
