-- What came from standard input into a buffer.
use Rattle.std.specs.Prelude.{ℕ, ◌≤◌, ◌<◌, Option, Some, None, Result, Ok, Err}

-- the bytes lie within a buffer of this length; a failure says nothing
abbrev pub Within : {E : Type 0} → Result ℕ E → ℕ → Type 0
Within (Ok n) room = n ≤ room
Within (Err e) room = Unit {0}

-- after a read that brought bytes there are more than `done` of them, within the buffer; an end or a failure says nothing
abbrev pub Further : {E : Type 0} → Result (Option ℕ) E → ℕ → ℕ → Type 0
Further (Ok (Some n)) done room = (done < n) × (n ≤ room)
Further (Ok None) done room = Unit {0}
Further (Err e) done room = Unit {0}
