-- The buffer of fixed size, and demand 3 of a text. Assumes nothing.
use mathlib.Core.Path.{ap}
use Rattle.model.proofs.Demand.{demand3}
use Rattle.texts.specs.Format.{Text, frame_at, whole, text_of}
use Rattle.texts.proofs.Enough as enough
use Rattle.text_answers.specs.Format.{scale_in, certificate_of, certify_text, BindsRead}
use Rattle.text_answers.specs.Claims.{FixedBuffer, Demand3OfTexts}

pub fixed-buffer : FixedBuffer
unfolding certify_text
fixed-buffer size h input = ap certificate_of (enough.fixed-buffer size h input)

read-binds : (t : Text) → BindsRead t (certificate_of t)
read-binds (frame_at n) = tt
read-binds (whole s) = demand3 s.of_data (scale_in s.of_scal) s.of_plan s.of_dual

pub text-binds : Demand3OfTexts
unfolding certify_text
text-binds input = read-binds (text_of input)
