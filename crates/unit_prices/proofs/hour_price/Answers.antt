use Rattle.unit_prices.proofs.Laws.{gen-price}
use Rattle.unit_prices.proofs.hour_price.Goals as goal

pub returns-in-3 : goal.returns-in-3
returns-in-3 c =
    gen-price _ _ _ _ c.in-3.is c.by_year_plant.ensures.0 c.by_year-tax.ensures.0 c.by_plant-emission.ensures.0 c.of-untaxed.ensures
    c.add_product.ensures
