-- What the limits of the links into a zone come to at most.
use Rattle.std.specs.Prelude.{ℕ}

-- what the limits of all links into a zone come to at most: one link from each of 8 zones, of 32 bits
abbrev pub most_into : ℕ
most_into = 34359738368
