use Rattle.sums.specs.Index.{index_of}
use Rattle.model.specs.Data.{read}
use Rattle.column_prices.proofs.Laws.{column-price}
use Rattle.model.specs.Columns.{column_boxes}
use Rattle.tables.proofs.Members.{column-inside, year-inside}
use Rattle.figures.proofs.Laws.{counted-alike, column-told}
use Rattle.figures.proofs.priced_at.Goals as goal

pub unit_price-unit-requires : goal.unit_price-unit-requires
unit_price-unit-requires c =
    let pricing = c.args.pricing.now in
    let own = column-inside _ (counted-alike column_boxes (index_of c.args.p) pricing.same_counts c.requires) in
    (own.0, (year-inside pricing.tested.tables.now.laid_out.counted own.1, (own.1.first, own.1.second)))

pub hours_of-hours-requires : goal.hours_of-hours-requires
hours_of-hours-requires c =
    let own = column-inside _ (counted-alike column_boxes (index_of c.args.p) c.args.pricing.now.same_counts c.requires) in
    (own.0, own.1.slice)

pub returns : goal.returns
returns c =
    let D = read c.args.pricing.now.tested.tables.now.list.now in
    let p = c.args.p in
    rw (c.difference.ensures, c.join.ensures)
    (column-told D c.args.pricing.now.multipliers.list.now (index_of p) c.column_sums-sums.ensures
    (column-price D p (column-inside _ c.requires).0 c.unit_price-unit.ensures c.hours_of-hours.ensures c.scale-price.ensures))
