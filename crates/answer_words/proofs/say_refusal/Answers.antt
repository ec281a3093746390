use Rattle.writer.proofs.Laws.{said-joined}
use Rattle.answer_words.specs.Answers.{refused_words}
use Rattle.answer_words.proofs.say_refusal.Goals as goal

pub returns : goal.returns
unfolding refused_words
returns c =
    rw (← c.code_of-code.ensures)
    (said-joined _ _ _ _ c.say_name.ensures
    (said-joined _ _ _ _ c.say.ensures
    c.say_body.ensures))
