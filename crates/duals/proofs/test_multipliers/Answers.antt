use mathlib.Core.Path.{◌∙◌}
use native.Mathlib.Omega.{arith}
use Rattle.model.specs.Families.{family_count}
use Rattle.duals.proofs.Laws.{rows_end, count-wrong, count-right}
use Rattle.duals.proofs.test_multipliers.Goals as goal

pub returns-then-ms-whole : goal.returns-then-ms-whole
returns-then-ms-whole c = λ D e.
    count-wrong _ D e (rows_end _ (c.row_starts-starts.ensures.1 family_count (omega arith))) (λ q. omega (arith, c.if-ms-whole.true))

pub invariant_of-multipliers : goal.invariant_of-multipliers
invariant_of-multipliers c = record {
  counted = c.requires.counted;
  laid_out = record {
    whole = c.if-ms-whole.false ∙ rows_end _ (c.row_starts-starts.ensures.1 family_count (omega arith));
    starts = c.row_starts-starts.ensures.1;
  };
}

pub returns : goal.returns
returns c = λ D e.
    count-right _ D e (rows_end _ (c.row_starts-starts.ensures.1 family_count (omega arith))) c.if-ms-whole.false (c.test_ranges.ensures D e)
