use borrow.Author.Rules.{rules}
use Rattle.parts.proofs.slices.season_of.Goals as goal

pub returns : goal.returns
returns c = rw c.season_length.ensures.0 (search rules)
