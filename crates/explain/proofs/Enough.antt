-- The buffer is enough.
use mathlib.Core.Path.{ap}
use native.Mathlib.Omega.{arith}
use lib.ListN.{take}
use Rattle.texts.proofs.Enough.{fixed-buffer}
use Rattle.standard_input.specs.Size.{input_bytes}
use Rattle.writer.specs.Writing.{room}
use Rattle.explanations.specs.Explained.{explanation_of, explain_text}
use Rattle.explain.specs.Printed.{printed, Enough}

pub enough : Enough
unfolding printed explain_text
enough input = ap (λ t. take room (explanation_of t)) (fixed-buffer input_bytes (omega arith) input)
