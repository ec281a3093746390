-- Names by number.
use Rattle.std.specs.Prelude.{List, [], ℕ, get_or}

-- the name of number k, counted from 0; where there are fewer, it has no bytes
unfoldable pub name_at : List (List ℕ) → ℕ → List ℕ
name_at names k = get_or names k []
