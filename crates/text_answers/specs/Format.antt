-- What certify answers to a text (document 01, "The certify program"; document 02 (v)). The text's format is texts/specs/Format.antt.
use Rattle.std.specs.Prelude.{List, ℕ, get_or, Result, Err}
use Rattle.model.specs.declared.Certificate.{Certificate}
use Rattle.model.specs.declared.Refusal.{Refusal}
use Rattle.model.specs.declared.Refusal.TheVariants.{Frame}
use Rattle.model.specs.Calls.{certify}
use Rattle.model.specs.Rival.{Binds}
use Rattle.texts.specs.Format.{Text, frame_at, whole, text_of}

-- N without a SCAL line: plans come in thousandths (request (v))
abbrev pub default_scale : ℕ
default_scale = 1000

-- N: the number of the SCAL line, whatever it is, or the default where there is no such line
abbrev pub scale_in : List ℕ → ℕ
scale_in xs = get_or xs 0 default_scale

-- any Frame comes before every other refusal
abbrev pub certificate_of : Text → Result Certificate Refusal
certificate_of (frame_at n) = Err (Frame n)
certificate_of (whole s) = certify s.of_data (scale_in s.of_scal) s.of_plan s.of_dual

unfoldable pub certify_text : List ℕ → Result Certificate Refusal
certify_text input = certificate_of (text_of input)

-- demand 3 of a text: an issued certificate binds every rival plan over the text's data, at the text's scale
abbrev pub BindsRead : Text → Result Certificate Refusal → Type 0
BindsRead (frame_at n) r = Unit {0}
BindsRead (whole s) r = Binds s.of_data (scale_in s.of_scal) r

abbrev pub BindsText : List ℕ → Result Certificate Refusal → Type 0
BindsText input r = BindsRead (text_of input) r
