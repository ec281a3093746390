-- Words added to a line of fixed room.
use Rattle.std.specs.Prelude.{List, ◌++◌, ℕ, ◌-◌, length, take}

-- the bytes that the line of an explanation has room for: `ROOM` in the code
abbrev pub room : ℕ
room = 1024

-- a line that has room for `size` bytes, and behind its bytes the words, as far as there is room
unfoldable pub added : ℕ → List ℕ → List ℕ → List ℕ
added size line words = line ++ take (size - length line) words
