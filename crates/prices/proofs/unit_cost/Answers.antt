use Rattle.prices.proofs.Laws.{yearly-entry, units-priced}
use Rattle.prices.proofs.unit_cost.Goals as goal

pub entry_in-units-requires : goal.entry_in-units-requires
entry_in-units-requires c =
    let h = c.requires in
    yearly-entry h.0 c.column_set.ensures h.1.0 h.1.1.0 h.1.1.1

pub returns : goal.returns
returns c =
    units-priced _ c.requires.0 _ _ _ c.unit_price-unit.ensures c.entry_in-units.ensures.0 c.scale.ensures
