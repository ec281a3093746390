-- The buffer is enough.
use mathlib.Core.Path.{ap}
use native.Mathlib.Omega.{arith}
use Rattle.answer_line.specs.Line.{line_of}
use Rattle.text_answers.proofs.Laws.{fixed-buffer}
use Rattle.standard_input.specs.Size.{input_bytes}
use Rattle.certify.specs.Printed.{printed, Enough}

pub enough : Enough
unfolding printed
enough input = ap line_of (fixed-buffer input_bytes (omega arith) input)
