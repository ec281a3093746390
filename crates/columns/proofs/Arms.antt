-- The arms of the `match` over the kinds of column: what each knows of the four indices by its key, and what its answer is. Assumes nothing.
use mathlib.Core.Path.{◌≡◌, ◌∙◌}
use Prim.Native.Nat.{ℕ}
use lib.ListN.{get_or}
use Rattle.sums.specs.Index.{index, Member}
use Rattle.model.specs.declared.Counts.{Counts}
use Rattle.model.specs.Columns.{column_sets, column_boxes}
use Rattle.model.specs.Data.{Data}
use Rattle.model.specs.Standing.{standing⁺, standing⁻}
use Rattle.duals.specs.declared.Pricing.{Pricing}
use Rattle.tables.specs.Lists.{data_of}
use Rattle.tables.specs.Layout.{Inside}
use Rattle.tables.proofs.Members.{column-inside}
use Rattle.column_terms.specs.declared.Pair.{Pair}
use Rattle.column_terms.specs.Pairs.{pair_of, priced_pair}
use Rattle.column_terms.proofs.Laws.{counts_of}
use Rattle.column_terms.proofs.Sound.{sound-placed}
use Rattle.columns.proofs.Laws.{column-priced}

module _ (pricing : Pricing) {k K y i j s : ℕ} (e : k ≡ K) (p : Member (column_boxes pricing.multipliers.counts) (index k y i j s)) where
  abbrev c : Counts
  c = pricing.multipliers.counts

  abbrev D : Data
  D = data_of pricing.tested.tables.now

  pub own-indices : Inside c (get_or column_sets K 0) y i j s
  own-indices = rw e at (column-inside c p).1

  pub column-is : {r : Pair} → r ≡ pair_of c pricing.multipliers.list.now (standing⁺ D (index K y i j s)) (standing⁻ D (index K y i j s))
      → r ≡ priced_pair D pricing.multipliers.list.now (index k y i j s)
  column-is {r} q =
      let n = counts_of pricing in
      column-priced D pricing.multipliers.list.now (index k y i j s) (sound-placed pricing.tested) (rw n p) (q ∙ rw (n, e))
