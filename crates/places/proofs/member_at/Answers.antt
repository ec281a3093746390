use Rattle.places.proofs.Laws.{member_is}
use Rattle.places.proofs.member_at.Goals as goal

pub returns : goal.returns
returns c = member_is c.args.b c.requires c.args.kind
