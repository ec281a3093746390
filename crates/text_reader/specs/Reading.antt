-- What the answer to a text says of it.
use Rattle.std.proofs.Common.{Result, Ok, Err}
use Rattle.texts.specs.declared.Numbers.{Numbers}
use Rattle.texts.specs.Format.{Text, frame_at, whole}
use Rattle.texts.specs.Numbers.{lists_in}
use Rattle.text_reader.specs.declared.Frame.{Frame}

abbrev pub text_in : Result (Unit {0}) Frame → Numbers → Text
text_in (Ok unit) numbers = whole (lists_in numbers)
text_in (Err frame) numbers = frame_at frame.line
