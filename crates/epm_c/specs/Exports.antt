-- What an exported call returns and writes, by its answer in document 01's numbers.
use Rattle.std.specs.Prelude.{◌≡◌, cond, List, ℕ, ltb, length, get_or}
use Rattle.model.specs.declared.Code.{Code}
use Rattle.model.specs.Data.{read}
use Rattle.model.specs.Rival.{Bounds}
use Rattle.exports.specs.Figures.{figures}

-- the answer's number, or 255 where `out` has no room for two figures
unfoldable pub status : ℕ → Code → ℕ
status room c = cond (ltb room 2) 255 c.number

unfoldable pub written : List ℕ → Code → List ℕ
written out c = cond (ltb (length out) 2) out (figures out c)

-- the board: as it was where `out` is too short
unfoldable pub board_of : ℕ → List ℕ → List ℕ → List ℕ
board_of room old new = cond (ltb room 2) old new

-- demand 3 as a caller of epm_certify has it: where 0 came back, the cost in out[0] and the gap in out[1] bind every rival plan
abbrev pub BindsOut : List ℕ → ℕ → ℕ → List ℕ → Type 0
BindsOut l N r out = r ≡ 0 → Bounds (read l) N (get_or out 0 0) (get_or out 1 0)
