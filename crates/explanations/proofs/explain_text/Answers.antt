use Rattle.explanations.proofs.Laws.{explains}
use Rattle.explanations.proofs.explain_text.Goals as goal

pub returns : goal.returns
returns c = explains c.args.input.now (rw c.new-line.ensures at c.say_explanation.ensures)
