-- What check, certify and post answer on every input, and what the board then holds.
use Rattle.std.specs.Prelude.{Bool, true, false, List, [], ◌∷◌, ◌++◌, ℕ, ◌+◌, ◌*◌, ℤ, length, take, drop, Result, Ok, Err}
use Rattle.sums.specs.Span.{Fault, fine, fault, or_else}
use Rattle.model.specs.declared.Refusal.{Refusal}
use Rattle.model.specs.declared.Refusal.TheVariants.{Shape, DataLength, Entry, Scale, PlanLength, RowOffScale, Broken, CostOffScale, MultiplierCount, Multiplier, ColumnOffScale, Underpriced, GapOffScale, Board, Frame, Storage}
use Rattle.model.specs.declared.Code.{Code}
use Rattle.model.specs.declared.Certificate.{Certificate}
use Rattle.model.specs.Data.{Data, read, G, S}
use Rattle.model.specs.Columns.{entries, column_number, gen}
use Rattle.model.specs.Prices.{cost}
use Rattle.model.specs.Tests.{data_fault, plan_fault, dual_fault, gap, board_fault}

abbrev pub code : ℕ → ℕ → ℕ → Code
code n a b = record { number = n; first = a; second = b }

-- the number and place of each refusal, in documents 01 and 02
unfoldable pub code_of : Refusal → Code
code_of (Shape i) = code 1 i 0
code_of (DataLength n) = code 2 n 0
code_of (Entry i) = code 3 i 0
code_of Scale = code 4 0 0
code_of (PlanLength n) = code 5 n 0
code_of (RowOffScale r) = code 6 r 0
code_of (Broken r) = code 7 r 0
code_of CostOffScale = code 8 0 0
code_of (MultiplierCount n) = code 9 n 0
code_of (Multiplier r) = code 10 r 0
code_of (ColumnOffScale c) = code 11 c 0
code_of (Underpriced c) = code 12 c 0
code_of GapOffScale = code 13 0 0
code_of Board = code 14 0 0
code_of (Frame n) = code 15 n 0
code_of (Storage g) = code 16 g 0

-- an answer of check or post: 0 and the cost, or the refusal
unfoldable pub answer_code : Result ℕ Refusal → Code
answer_code (Ok c) = code 0 c 0
answer_code (Err r) = code_of r

-- an answer of certify: 0, the cost and the gap, or the refusal
unfoldable pub certificate_code : Result Certificate Refusal → Code
certificate_code (Ok a) = code 0 a.cost a.gap
certificate_code (Err r) = code_of r

-- what a test answers, in the code
abbrev pub outcome : Fault Refusal → Result (Unit {0}) Refusal
outcome fine = Ok tt
outcome (fault r) = Err r

abbrev pub answer : Fault Refusal → ℕ → Result ℕ Refusal
answer fine c = Ok c
answer (fault r) c = Err r

-- a certificate of a cost and a gap
abbrev pub issued : ℕ → ℕ → Result Certificate Refusal
issued c g = Ok (record { cost = c; gap = g })

abbrev pub certificate : Fault Refusal → ℕ → ℕ → Result Certificate Refusal
certificate fine c g = issued c g
certificate (fault r) c g = Err r

-- check: data, N, plan; the cost
unfoldable pub check_fault : List ℕ → ℕ → List ℕ → Fault Refusal
check_fault l N plan = or_else (data_fault l) (plan_fault (read l) N plan)

unfoldable pub cost_of : List ℕ → List ℕ → ℕ
cost_of l plan = cost (read l) (entries (read l) plan)

unfoldable pub check : List ℕ → ℕ → List ℕ → Result ℕ Refusal
check l N plan = answer (check_fault l N plan) (cost_of l plan)

-- certify: data, N, plan, multipliers; cost and gap
unfoldable pub certify_fault : List ℕ → ℕ → List ℕ → List ℤ → Fault Refusal
certify_fault l N plan ms = or_else (check_fault l N plan) (dual_fault (read l) ms N)

unfoldable pub gap_of : List ℕ → ℕ → List ℕ → List ℤ → ℕ
gap_of l N plan ms = gap (read l) ms N (cost_of l plan)

unfoldable pub certify : List ℕ → ℕ → List ℕ → List ℤ → Result Certificate Refusal
certify l N plan ms = certificate (certify_fault l N plan ms) (cost_of l plan) (gap_of l N plan ms)

-- post: data, N, plan, year index, board, start; the cost, and the year's part of the gen table on the board
unfoldable pub post_fault : List ℕ → ℕ → List ℕ → ℕ → List ℕ → ℕ → Fault Refusal
post_fault l N plan y board start = or_else (check_fault l N plan) (board_fault (read l) y (length board) start)

unfoldable pub post : List ℕ → ℕ → List ℕ → ℕ → List ℕ → ℕ → Result ℕ Refusal
post l N plan y board start = answer (post_fault l N plan y board start) (cost_of l plan)

-- G·S numbers
unfoldable pub year_outputs : Data → List ℕ → ℕ → List ℕ
year_outputs D plan y = take (G D * S D) (drop (column_number D (gen y 0 0)) plan)

unfoldable pub replaced : List ℕ → ℕ → List ℕ → List ℕ
replaced board start part = take start board ++ (part ++ drop (start + length part) board)

abbrev pub board_after : Fault Refusal → List ℕ → List ℕ → List ℕ
board_after fine old new = new
board_after (fault r) old new = old

-- the board after post: on a refusal exactly what it held
unfoldable pub posted : List ℕ → ℕ → List ℕ → ℕ → List ℕ → ℕ → List ℕ
posted l N plan y board start = board_after (post_fault l N plan y board start) board (replaced board start (year_outputs (read l) plan y))
