-- Every row mentions columns of the plan only.
use Prim.Native.Nat.{ℕ, ◌<◌}
use native.Mathlib.Omega.{arith}
use Rattle.sums.specs.Index.{Index, index, Member, box_of}
use Rattle.sums.specs.Linear.{Mentions}
use Rattle.sums.proofs.Lists.{Alls, at_place, ◌and◌}
use Rattle.model.specs.Data.{Data}
use Rattle.model.specs.Families.{Equation, empty, equation, equations, row_boxes}
use Rattle.model.proofs.Members.{Column, in_cap, in-build, in-retire, in-gen, in-reserve, in-trans, in-unmet, in-surplus, in-spinshort, in-firmshort, in-charge, in-level, in-built, in-total, in-year}

module _ (D : Data) where
  abbrev pub Inside : Equation → Type 0
  Inside e = Mentions (Column D) e.positive × Mentions (Column D) e.negative

  -- what its indices' bounds say of the row of the k-th family
  abbrev Bounded : ℕ → ℕ → ℕ → ℕ → ℕ → Equation → Type 0
  Bounded y i j s k e =
      y < (box_of (row_boxes D.counts) k).years → i < (box_of (row_boxes D.counts) k).firsts → j < (box_of (row_boxes D.counts) k).seconds
      → s < (box_of (row_boxes D.counts) k).slices → Inside e

  each-inside : (y i j s : ℕ) → Alls (Bounded y i j s) (equations D y i j s)
  unfolding equation row_boxes
  each-inside y i j s =
      (λ hy hz _ hs. (((λ g hg _. in-gen D hy hg hs, λ u hu _. in-trans D hy hu hz hs), in-unmet D hy hz hs), ((λ g hg _. in-charge D hy hg hs, λ u hu _. in-trans D hy hz hu hs), in-surplus D hy hz hs)))
      and (λ hy hz hw hs. (in-total D hy hz hw, in-trans D hy hz hw hs))
      and (λ hy hz _ hs. (((λ g hg _. in-reserve D hy hg hs, in-spinshort D hy hz hs), λ u hu _. in-total D hy hu hz), (λ u hu _. in-trans D hy hu hz hs, λ g hg _ _. in-gen D hy hg hs)))
      and (λ hy hz _ _. ((λ g hg _. in_cap D hy hg, in-firmshort D hy hz), tt))
      and (λ hy hg _ hs. (in_cap D hy hg, (in-gen D hy hg hs, in-reserve D hy hg hs)))
      and (λ hy hg _ hs. (in_cap D hy hg, in-reserve D hy hg hs))
      and (λ hy hg _ hs. (λ _. (in_cap D hy hg, in-gen D hy hg hs), λ _. in-gen D hy hg (omega arith)))
      and (λ hy hg _ hs. (λ _. (in_cap D hy hg, in-gen D hy hg (omega arith)), λ _. in-gen D hy hg hs))
      and (λ hy hg _ hs. (λ _. in-gen D hy hg hs, λ _. in_cap D hy hg))
      and (λ hy hg _ hq. (in_cap D hy hg, λ p hp. in-gen D hy hg (in-year D s p hq hp)))
      and (λ hy hg _ hs. (λ _. in_cap D hy hg, λ _. in-gen D hy hg hs))
      and (λ hy hg _ _. ((in_cap D hy hg, λ _. in-retire D hy hg), (λ _. in_cap D (omega arith) hg, λ _. in-build D hy hg)))
      and (λ hy hg _ _. (λ _. tt, λ _. in_cap D hy hg))
      and (λ hy hg _ _. (tt, (λ _. in-build D hy hg, λ _. in-retire D hy hg)))
      and (λ _ hg _ _. (λ _. tt, λ _ a ha. in-build D ha hg))
      and (λ hy hg _ _. (λ _. tt, λ _. in-build D hy hg))
      and (λ hy _ _ _. (tt, λ g hg _ _ p hp. in-gen D hy hg hp))
      and (λ _ _ _ _. (tt, λ a ha g hg _. in_cap D ha hg))
      and (λ hy _ _ _. (tt, λ g hg _ p hp. in-gen D hy hg hp))
      and (λ hy _ _ _. (tt, λ g hg p hp. in-gen D hy hg hp))
      and (λ hy hg _ hs. (λ _. (in-level D hy hg hs, in-gen D hy hg hs), λ _. (λ _. in-level D hy hg (omega arith), in-charge D hy hg hs)))
      and (λ hy hg _ hs. (λ _. in_cap D hy hg, in-charge D hy hg hs))
      and (λ hy hg _ hs. (λ _ _. (in_cap D hy hg, in-charge D hy hg (omega arith)), λ _ _. in-charge D hy hg hs))
      and (λ hy hg _ hs. (λ _ _. (in_cap D hy hg, in-charge D hy hg hs), λ _ _. in-charge D hy hg (omega arith)))
      and (λ hy hg _ hs. (tt, in-level D hy hg hs))
      and (λ hy hz hw _. (in-total D hy hz hw, (λ _. in-total D (omega arith) hz hw, in-built D hy hz hw)))
      and (λ _ hz hw _. (tt, λ a ha. in-built D ha hz hw))
      and (λ hy hz hw _. (λ _. in-total D hy hz hw, λ _. in-total D hy hw hz))
      and tt

  pub inside : (r : Index) → Member (row_boxes D.counts) r → Inside (equation D r)
  unfolding equation row_boxes
  inside (index k y i j s) m = at_place (Bounded y i j s) (equations D y i j s) empty (each-inside y i j s) k m.0 m.1 m.2 m.3 m.4
