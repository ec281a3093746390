-- Request (v): the default scale and the earlier one. Assumes nothing.
use mathlib.Core.Bool.{false}
use mathlib.Core.List.{List, [], ◌∷◌, ◌++◌}
use mathlib.Core.Path.{◌≡◌, refl, sym, ap, ◌∙◌}
use Prim.Native.Nat.{ℕ, ◌<◌}
use native.Mathlib.Omega.{arith}
use lib.ListN.{length}
use Rattle.model.specs.declared.Certificate.{Certificate}
use Rattle.std.specs.Prelude.{Result, Err}
use Rattle.model.specs.declared.Refusal.{Refusal}
use Rattle.model.specs.declared.Refusal.TheVariants.{Frame}
use Rattle.model.specs.Calls.{certify}
use Rattle.texts.specs.Format.{line_feed, Lists, Text, frame_at, whole, text_of}
use Rattle.texts.specs.Claims.{has_scal}
use Rattle.texts.proofs.ScalLines.{ScalRead, NoScalRead, scal-read, no-scal-read, ScalLine, with_scale, scale-behind, scal-of-1000, scal-of-1}
use Rattle.text_answers.specs.Earlier.{earlier_scale_in, earlier_certificate_of, earlier_certify_text}
use Rattle.text_answers.specs.Format.{scale_in, certificate_of, certify_text}
use Rattle.text_answers.specs.Claims.{AnsweredAsBefore, ReadInThousandths, KeptByOne}

-- a SCAL number that was read is N, now and before
same_scale : (xs : List ℕ) → 0 < length xs → scale_in xs ≡ earlier_scale_in xs
same_scale [] h = absurd (omega arith)
same_scale (x ∷ xs) h = refl

same_answer : (t : Text) → ScalRead t → certificate_of t ≡ earlier_certificate_of t
same_answer (frame_at n) h = refl
same_answer (whole s) h = ap (λ (N : ℕ). certify s.of_data N s.of_plan s.of_dual) (same_scale s.of_scal h)

pub answered-as-before : AnsweredAsBefore
unfolding certify_text earlier_certify_text
answered-as-before input h = same_answer (text_of input) (scal-read input h)

-- without one, an answer by a default d is certify's to the same text with a SCAL line of d behind it
default-read : {l : List ℕ} {d : ℕ} → ScalLine l d → (answer : Text → Result Certificate Refusal)
    → ((n : ℕ) → answer (frame_at n) ≡ Err (Frame n)) → ((s : Lists) → s.of_scal ≡ [] → answer (whole s) ≡ certify s.of_data d s.of_plan s.of_dual)
    → (input : List ℕ) → has_scal input ≡ false → answer (text_of input) ≡ certificate_of (text_of (input ++ (l ++ (line_feed ∷ []))))
default-read {d = d} scal answer frames wholes input h = go (text_of input) (no-scal-read input h) ∙ ap certificate_of (sym (scale-behind scal input h))
  where
    go : (t : Text) → NoScalRead t → answer t ≡ certificate_of (with_scale d t)
    go (frame_at n) k = frames n
    go (whole s) k = wholes s k

pub read-in-thousandths : ReadInThousandths
unfolding certify_text
read-in-thousandths = default-read scal-of-1000 certificate_of (λ n. refl) (λ s e. rw e)

pub kept-by-one : KeptByOne
unfolding certify_text earlier_certify_text
kept-by-one = default-read scal-of-1 earlier_certificate_of (λ n. refl) (λ s e. rw e)
