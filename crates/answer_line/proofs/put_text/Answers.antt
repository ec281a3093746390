use Rattle.writer.proofs.Laws.{said-joined}
use Rattle.answer_line.specs.Line.{line_with}
use Rattle.answer_line.proofs.Laws.{short-text}
use Rattle.answer_line.proofs.put_text.Goals as goal

pub returns-clause-said : goal.returns-clause-said
unfolding line_with
returns-clause-said g c = said-joined _ _ _ _ c.say.ensures (said-joined _ _ _ _ c.say_with.ensures (said-joined _ _ _ _ c.say_with-2.ensures c.say-2.ensures))

pub returns-clause-short : goal.returns-clause-short
returns-clause-short g c = short-text c.args.letter c.args.first c.args.second c.ranges.first.fits c.ranges.second.fits
