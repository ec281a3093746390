use Prim.Native.Nat.{◌≤◌}
use Rattle.tables.proofs.Laws.{small}
use Rattle.column_terms.proofs.Sound.{few-weights}
use Rattle.column_terms.proofs.readers.weighted_annuity.Goals as goal

pub overflow_mul-result : goal.overflow_mul-result
overflow_mul-result c =
    let h : c.year_weight.result ≤ 20000 = rw c.year_weight.ensures (few-weights c.args.tested.now c.requires.0) in
    small 20000 0xffff_ffff tt h c.by_year_plant.ensures.1
