use mathlib.Core.Path.{sym, ◌∙◌}
use Rattle.gap.proofs.Laws.{term_is}
use Rattle.gap.proofs.add_term.Goals as goal

pub returns : goal.returns
returns c =
    c.with_row.ensures ∙ rw (c.at-m.ensures, c.constant_at.ensures) (term_is _ _ _ _ (c.args.pricing.now.tested.tables.now.laid_out.counts ∙ sym c.args.pricing.now.same_counts))
