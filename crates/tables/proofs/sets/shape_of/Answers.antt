use borrow.Author.Rules.{rules}
use mathlib.Core.Path.{refl, ap}
use mathlib.Core.Bool.{false}
use mathlib.Core.List.{List}
use Prim.Native.Nat.{ℕ}
use Rattle.sums.specs.Index.{box_of, volume}
use Rattle.model.specs.declared.Family.{Family}
use Rattle.model.specs.Counts.{sets}
use Rattle.model.specs.Families.{families, family, family_count, shape_of, row_boxes}
use Rattle.tables.proofs.Arrays.{map_is}
use Rattle.tables.proofs.sets.shape_of.Goals as goal

pub returns : goal.returns
unfolding shape_of row_boxes
returns c =
    ap (λ (l : List ℕ). record { counts = c.args.c; sizes = l })
    (map_is _ (λ (f : Family). volume (box_of (sets c.args.c) f.set)) families _ (λ f n q k. search rules) family_count (family 0 0 false) 0 refl c.map-sizes.ensures.items)
