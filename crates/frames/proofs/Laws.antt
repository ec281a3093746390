-- What the code of `certify_text` makes of the answer to a text's lines. Assumes nothing.
use mathlib.Core.Path.{◌≡◌, refl}
use Rattle.std.specs.Prelude.{Result, Ok, Err, MatchResult, IsErr, IsErrAnd}
use Rattle.model.specs.declared.Certificate.{Certificate}
use Rattle.model.specs.declared.Refusal.{Refusal}
use Rattle.model.specs.declared.Refusal.TheVariants as refusal
use Rattle.texts.specs.declared.Numbers.{Numbers}
use Rattle.texts.specs.Format.{whole}
use Rattle.texts.specs.Numbers.{lists_in}
use Rattle.text_reader.specs.declared.Frame.{Frame}
use Rattle.text_reader.specs.Reading.{text_in}
use Rattle.text_answers.specs.Format.{certificate_of}

module _ (t : Result (Unit {0}) Frame) (n : Numbers) (r : Result (Unit {0}) Refusal) (P : Frame → Refusal → Type 0) (told : MatchResult t (λ u. r ≡ Ok u) (λ f. IsErrAnd r (P f))) where
  pub numbers-read : (u : Unit {0}) → r ≡ Ok u → text_in t n ≡ whole (lists_in n)
  numbers-read u e = go t told
    where
      go : (t : Result (Unit {0}) Frame) → MatchResult t (λ u. r ≡ Ok u) (λ f. IsErrAnd r (P f)) → text_in t n ≡ whole (lists_in n)
      go (Ok m) h = refl
      go (Err f) h = absurd (rw e at h)

  pub frame-told : ((f : Frame) (d : Refusal) → P f d → d ≡ refusal.Frame f.line) → (d : Refusal) → r ≡ Err d → Err d ≡ certificate_of (text_in t n)
  frame-told so d e = go t told
    where
      go : (t : Result (Unit {0}) Frame) → MatchResult t (λ u. r ≡ Ok u) (λ f. IsErrAnd r (P f)) → Err d ≡ certificate_of (text_in t n)
      go (Ok m) h = absurd (cc)
      go (Err f) h = rw (so f d (rw e at h))

-- a refusal that is handed on
pub handed-on : (r : Result Certificate Refusal) (d : Refusal) → IsErr r × IsErrAnd r (λ e. e ≡ d) → r ≡ Err d
handed-on (Ok c) d h = absurd cc
handed-on (Err e) d h = rw h.1
