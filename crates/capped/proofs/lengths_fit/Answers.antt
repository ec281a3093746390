use mathlib.Core.Path.{sym, ◌∙◌}
use Rattle.capped.specs.Cap.{straight}
use Rattle.capped.proofs.Laws.{small-lengths}
use borrow.Author.Tests.{le-leb}
use Rattle.capped.proofs.lengths_fit.Goals as goal

pub returns-then-both_small : goal.returns-then-both_small
returns-then-both_small c =
    c.if-both_small.true ∙ sym (le-leb _ straight (small-lengths c.args.a c.args.b c.both_small.ensures c.if-both_small.true))
