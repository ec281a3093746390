use mathlib.Core.Path.{refl, ◌∙◌}
use native.Mathlib.Omega.{arith}
use Rattle.writer.proofs.Laws.{added-fitting}
use Rattle.certify.specs.Printed.{printed}
use Rattle.certify.proofs.answer.Goals as goal

pub returns : goal.returns
unfolding printed
returns c =
    let certificate = c.certify_text.ensures in
    let said = rw c.new-line.ensures at c.answer_line.ensures.said in
    let whole = said ∙ added-fitting _ _ _ (omega (arith, c.answer_line.ensures.short)) in
    rw (← certificate.0) (record {
      whole = whole;
      short = rw whole c.answer_line.ensures.short;
      binds = (_, (refl, certificate.1));
    })
