use Prim.Native.Nat.{◌≤◌}
use Rattle.tables.proofs.Laws.{small}
use Rattle.column_terms.proofs.Sound.{few-availability}
use Rattle.column_terms.proofs.readers.available_hours.Goals as goal

pub overflow_mul-result : goal.overflow_mul-result
overflow_mul-result c =
    let h : c.by_plant_season.result ≤ 1000 = rw c.by_plant_season.ensures.0 (few-availability c.args.tested.now c.requires.0 c.requires.1) in
    small 1000 412316860320 tt h c.season_hours.ensures.1
