use mathlib.Core.List.{[], ◌∷◌}
use mathlib.Core.Path.{sym, ◌∙◌}
use borrow.Author.Rules.{rules}
use Rattle.std.proofs.lemmas.Bool.Decides.{Decides-eqb}
use Rattle.std.proofs.lemmas.Slice.Eq.{strip_suffix_is}
use Rattle.texts.specs.Format.{line_feed}
use Rattle.text_reader.proofs.Laws.{line-cut, unended-cut, ended, left-unended, no_line, next_line, passed, failed, text-frame}
use Rattle.text_reader.proofs.read_text.Goals as goal

pub loop-before-init : goal.loop-before-init
loop-before-init c =
    let e = c.enumerate-before-items.ensures in
    rw (c.into_iter-before-iterator.ensures.into_iter_gives, e.count, e.source, c.split_inclusive.ensures.rest)

pub returns-in_err-line : goal.returns-in_err-line
returns-in_err-line c =
    let s = c.in-Some.ensures.steps in
    let ends = strip_suffix_is Decides-eqb c.in-Some.bytes.now (line_feed ∷ []) c.strip_suffix.result c.strip_suffix.ensures.cases in
    let f = failed c.strip_suffix.result _ _ (sym c.in_err-line.was ∙ c.ok_or.ensures.value) in
    let none = rw f.0 at ends in
    let left = unended-cut _ _ _ s.0 (λ h a r k e. search rules) none in
    text-frame _ _ _ c.from_residual.ensures ∙ rw (f.1, s.1) (left-unended _ _ _ _ c.loop-before.invariant left)

pub loop-before-preserved : goal.loop-before-preserved
loop-before-preserved c =
    let s = c.in-Some.ensures.steps in
    let ends = strip_suffix_is Decides-eqb c.in-Some.bytes.now (line_feed ∷ []) c.strip_suffix.result c.strip_suffix.ensures.cases in
    let p = passed c.strip_suffix.result _ (sym c.in_ok-line.was ∙ c.ok_or.ensures.value) in
    let q = passed c.read_line.result _ (sym c.in_ok-ok_or.was ∙ c.ok_or-in-loop-before.ensures.value) in
    let cut = line-cut _ _ _ s.0 (λ h a r k e. search rules) _ (rw p at ends) in
    rw s.2 (next_line _ _ _ _ c.loop-before.invariant _ _ _ cut (rw q at c.read_line.ensures))

pub returns-in_err-ok_or : goal.returns-in_err-ok_or
returns-in_err-ok_or c =
    let s = c.in-Some.ensures.steps in
    let ends = strip_suffix_is Decides-eqb c.in-Some.bytes.now (line_feed ∷ []) c.strip_suffix.result c.strip_suffix.ensures.cases in
    let p = passed c.strip_suffix.result _ (sym c.in_ok-line.was ∙ c.ok_or.ensures.value) in
    let f = failed c.read_line.result _ _ (sym c.in_err-ok_or.was ∙ c.ok_or-in-loop-before.ensures.value) in
    let cut = line-cut _ _ _ s.0 (λ h a r k e. search rules) _ (rw p at ends) in
    text-frame _ _ _ c.from_residual-in_err-ok_or.ensures ∙ rw (f.1, s.1) (no_line _ _ _ _ c.loop-before.invariant _ _ cut (rw f.0 at c.read_line.ensures))

pub returns : goal.returns
returns c = ended _ _ _ _ c.loop-before.invariant c.in-None.ensures.steps.0.0
