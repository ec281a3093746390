use mathlib.Core.Path.{◌∙◌}
use borrow.Author.Rules.{rules}
use Rattle.peaks.proofs.Laws.{part-peak}
use Rattle.peaks.proofs.zone_peak.Goals as goal

pub returns : goal.returns
returns c =
    (c.from.ensures ∙ part-peak c.args.tables.now.laid_out c.requires.0 c.requires.1 c.slices_of-n.ensures.0 c.inside_of.ensures c.peak_of.ensures, search rules)
