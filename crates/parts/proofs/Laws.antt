-- Laws of the year's parts. Assumes nothing.
use Prim.Native.Nat.{ℕ, ◌+◌, ◌*◌, ◌≤◌, ◌<◌}
use native.Mathlib.Nat.{mul-le-mul}
use Rattle.sums.proofs.Numbering.{below-product}
use Rattle.model.specs.declared.Counts.{Counts}
use Rattle.model.specs.Counts.{slices_of}
use Rattle.tables.specs.Layout.{Counted}
use Rattle.tables.proofs.Laws.{few-slices}

module _ {c : Counts} (n : Counted c) where
  -- a plant's slice in a year's part
  pub part-below : (g s : ℕ) → g < c.plants → s < slices_of c → g * slices_of c + s < c.plants * slices_of c
  part-below g s hg hs = below-product c.plants (slices_of c) hg hs

  pub few-places : c.plants * slices_of c ≤ 12288
  few-places = mul-le-mul n.few_plants (few-slices n)
