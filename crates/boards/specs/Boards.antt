-- What post answers and leaves on the board, as the code has it.
use Rattle.std.specs.Prelude.{List, ℕ, Result, Ok, Err}
use Rattle.sums.specs.Span.{Fault}
use Rattle.model.specs.declared.Refusal.{Refusal}
use Rattle.model.specs.Calls.{answer, board_after}

-- post once check has answered: its answer by the board's test, and the board
unfoldable pub after : Result ℕ Refusal → Fault Refusal → Result ℕ Refusal
after (Ok c) f = answer f c
after (Err r) f = Err r

unfoldable pub board_after_check : Result ℕ Refusal → Fault Refusal → List ℕ → List ℕ → List ℕ
board_after_check (Ok c) f old new = board_after f old new
board_after_check (Err r) f old new = old
