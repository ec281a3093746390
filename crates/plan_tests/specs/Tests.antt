-- Refusals 4 and 5, as the code has them.
use Rattle.model.specs.declared.Refusal.{Refusal}
use Rattle.model.specs.Calls.{outcome}
use Rattle.std.specs.Prelude.{ℕ, eqb, Result}
use Rattle.sums.specs.Span.{or_else}
use Rattle.model.specs.declared.Refusal.TheVariants.{PlanLength}
use Rattle.model.specs.Tests.{unless, scale_fault}

-- of a plan with this many places where there are this many columns
unfoldable pub plan_test : ℕ → ℕ → ℕ → Result (Unit {0}) Refusal
plan_test N places columns = outcome (or_else (scale_fault N) (unless (eqb places columns) (PlanLength columns)))
