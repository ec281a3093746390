use mathlib.Core.Path.{sym, ap, ◌∙◌}
use borrow.Author.Rules.{rules}
use Rattle.texts.specs.Format.{text_of}
use Rattle.text_answers.specs.Format.{certificate_of, certify_text}
use Rattle.text_answers.proofs.Laws.{text-binds}
use Rattle.frames.proofs.Laws.{numbers-read, frame-told, handed-on}
use Rattle.frames.proofs.certify_text.Goals as goal

pub returns-in_err-map_err : goal.returns-in_err-map_err
unfolding certify_text text_of
returns-in_err-map_err c =
    let read = rw c.new-numbers.ensures at c.read_text.ensures in
    let frame = frame-told c.read_text.result _ _ _ c.map_err.ensures.cases (λ f d p. search rules) _ c.in_err-map_err.was in
    let same = handed-on _ _ c.from_residual.ensures ∙ (frame ∙ ap certificate_of read) in
    (same, rw same (text-binds _))

pub returns : goal.returns
unfolding certify_text text_of
returns c =
    let told = rw c.new-numbers.ensures at c.read_text.ensures in
    let read = sym (numbers-read c.read_text.result _ _ _ c.map_err.ensures.cases _ c.in_ok-map_err.was) ∙ told in
    let same = c.certify.ensures.1.0 ∙ rw (c.scale_in.ensures, c.deref.ensures.0, c.deref-2.ensures.0, c.deref-3.ensures.0, c.deref-4.ensures.0) (ap certificate_of read) in
    (same, rw same (text-binds _))
