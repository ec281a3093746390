-- What an exported call writes of its answer in document 01's numbers. Where it writes, and what it returns, is epm_c/specs/Exports.antt.
use Rattle.std.specs.Prelude.{List, ℕ, set}
use Rattle.model.specs.declared.Code.{Code}

-- the answer's figures in the first two places
unfoldable pub figures : List ℕ → Code → List ℕ
figures out c = set (set out 0 c.first) 1 c.second
