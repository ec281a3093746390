-- What certify answered to a text before request (v), for the claims that compare both. No call reads it.
use Rattle.std.specs.Prelude.{List, ℕ, get_or, Result, Err}
use Rattle.model.specs.declared.Certificate.{Certificate}
use Rattle.model.specs.declared.Refusal.{Refusal}
use Rattle.model.specs.declared.Refusal.TheVariants.{Frame}
use Rattle.model.specs.Calls.{certify}
use Rattle.texts.specs.Format.{Text, frame_at, whole, text_of}

-- N, which was 1 without a SCAL line
abbrev pub earlier_scale_in : List ℕ → ℕ
earlier_scale_in xs = get_or xs 0 1

abbrev pub earlier_certificate_of : Text → Result Certificate Refusal
earlier_certificate_of (frame_at n) = Err (Frame n)
earlier_certificate_of (whole s) = certify s.of_data (earlier_scale_in s.of_scal) s.of_plan s.of_dual

unfoldable pub earlier_certify_text : List ℕ → Result Certificate Refusal
earlier_certify_text input = earlier_certificate_of (text_of input)
