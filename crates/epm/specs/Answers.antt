-- A stage of check, as the code has it.
use Rattle.model.specs.declared.Refusal.{Refusal}
use Rattle.std.specs.Prelude.{ℕ, Result}
use Rattle.sums.specs.Span.{or_else}
use Rattle.sums.specs.Index.{Index}
use Rattle.model.specs.Data.{Data}
use Rattle.model.specs.Prices.{cost}
use Rattle.model.specs.Tests.{rows_fault, cost_fault}
use Rattle.model.specs.Calls.{answer}

-- refusals 6, 7 and 8, and the cost
unfoldable pub rows_and_cost : Data → ℕ → (Index → ℕ) → Result ℕ Refusal
rows_and_cost D N x = answer (or_else (rows_fault D N x) (cost_fault D x)) (cost D x)
