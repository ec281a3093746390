use borrow.Author.Tests.{ne_eqb}
use Rattle.writer.proofs.Laws.{said-joined}
use Rattle.sentences.specs.Sentences.{equation_words}
use Rattle.row_words.proofs.say_equation.Goals as goal

pub returns-else-equation-eq0 : goal.returns-else-equation-eq0
unfolding equation_words
returns-else-equation-eq0 c =
    rw (ne_eqb _ 0 c.if-equation-eq0.false, ← c.from.ensures)
    (said-joined _ _ _ _ c.say_with.ensures c.say-else-equation-eq0.ensures)
