use mathlib.Core.Path.{sym, ap, ◌∙◌}
use Rattle.capped.specs.Cap.{cap}
use Rattle.capped.proofs.Laws.{times-cap}
use Rattle.unit_prices.specs.Prices.{Hourly}
use Rattle.column_prices.proofs.Laws.{by-hour, column_laws}
use borrow.Author.Rules.{rules}
use Rattle.column_prices.proofs.unit_price.Goals as goal

pub returns-in_default : goal.returns-in_default
returns-in_default c =
    let hourly : Hourly c.args.k = search (rules, column_laws) in
    c.scale.ensures ∙ rw (c.hour_price.ensures, c.year_weight-share.ensures) (times-cap _ _ ∙ ap cap (sym ((by-hour hourly).unit _ _ _ _)))
