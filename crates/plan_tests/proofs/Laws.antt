-- Laws of the plan's tests and of the board's: what each says, by what the code found.
use Rattle.std.specs.Prelude.{Ok, Err}
use mathlib.Core.Path.{◌≡◌, ◌∙◌}
use mathlib.Core.Bool.{true, false}
use Prim.Native.Nat.{ℕ}
use borrow.Author.Tests.{eq-eqb, ne_eqb}
use Rattle.sums.specs.Span.{or_else}
use Rattle.model.specs.declared.Refusal.TheVariants.{Scale, PlanLength}
use Rattle.model.specs.Data.{within, ◌to◌}
use Rattle.model.specs.Tests.{unless, most_scale, scale_fault}
use Rattle.sums.specs.Index.{count}
use Rattle.model.specs.declared.Counts.{Counts}
use Rattle.model.specs.Columns.{column_sets, column_boxes, column_kind_count}
use Rattle.tables.specs.Layout.{start_from}
use Rattle.tables.proofs.Laws.{columns-end}
use Rattle.plan_tests.specs.Tests.{plan_test}

module _ (N places columns : ℕ) where
  pub scale_out : within (1 to most_scale) N ≡ false → Err Scale ≡ plan_test N places columns
  unfolding plan_test scale_fault unless or_else
  scale_out h = rw h

  pub plan_short : within (1 to most_scale) N ≡ true → (places ≡ columns → ⊥) → Err (PlanLength columns) ≡ plan_test N places columns
  unfolding plan_test scale_fault unless or_else
  plan_short h d = rw (h, ne_eqb places columns d)

  pub plan_fits : within (1 to most_scale) N ≡ true → places ≡ columns → (Ok tt) ≡ plan_test N places columns
  unfolding plan_test scale_fault unless or_else
  plan_fits h e = rw (h, eq-eqb places columns e)

-- the columns' number is where the last kind of column ends
pub last_start : (c : Counts) {n : ℕ} → n ≡ start_from c column_sets 0 column_kind_count → n ≡ count (column_boxes c)
last_start c e = e ∙ columns-end c
