-- How much of standard input a program keeps.
use Rattle.std.specs.Prelude.{ℕ}

-- the size of the programs' buffer: `INPUT_BYTES` in the code
abbrev pub input_bytes : ℕ
input_bytes = 180224
