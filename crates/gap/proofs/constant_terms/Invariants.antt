use Prim.Native.Nat.{◌-◌}
use Rattle.sums.specs.Index.{index, box_of}
use Rattle.model.specs.Data.{read}
use Rattle.model.specs.Families.{row_boxes, family_count}
use Rattle.gap.specs.Signs.{term⁺, term⁻}
use Rattle.gap.proofs.Laws.{Adding, of_second, of_first, of_year, of_family}
use Rattle.gap.proofs.constant_terms.Given as goal

abbrev pub invariant-loop-s : goal.invariant-loop-s
invariant-loop-s l = Adding (λ s. term⁺ (read l.pricing.tested.tables.now.list.now) l.pricing.multipliers.list.now (index l.k l.y l.i l.j s)) (λ s. term⁻ (read l.pricing.tested.tables.now.list.now) l.pricing.multipliers.list.now (index l.k l.y l.i l.j s)) l.b.slices l.initial.t l.s l.t

abbrev pub decreases-loop-s : goal.decreases-loop-s
decreases-loop-s l = l.b.slices - l.s

abbrev pub invariant-loop-j : goal.invariant-loop-j
invariant-loop-j l = Adding (λ j. of_second (term⁺ (read l.pricing.tested.tables.now.list.now) l.pricing.multipliers.list.now) l.b l.k l.y l.i j) (λ j. of_second (term⁻ (read l.pricing.tested.tables.now.list.now) l.pricing.multipliers.list.now) l.b l.k l.y l.i j) l.b.seconds l.initial.t l.j l.t

abbrev pub decreases-loop-j : goal.decreases-loop-j
decreases-loop-j l = l.b.seconds - l.j

abbrev pub invariant-loop-i : goal.invariant-loop-i
invariant-loop-i l = Adding (λ i. of_first (term⁺ (read l.pricing.tested.tables.now.list.now) l.pricing.multipliers.list.now) l.b l.k l.y i) (λ i. of_first (term⁻ (read l.pricing.tested.tables.now.list.now) l.pricing.multipliers.list.now) l.b l.k l.y i) l.b.firsts l.initial.t l.i l.t

abbrev pub decreases-loop-i : goal.decreases-loop-i
decreases-loop-i l = l.b.firsts - l.i

abbrev pub invariant-loop-y : goal.invariant-loop-y
invariant-loop-y l = Adding (λ y. of_year (term⁺ (read l.pricing.tested.tables.now.list.now) l.pricing.multipliers.list.now) l.b l.k y) (λ y. of_year (term⁻ (read l.pricing.tested.tables.now.list.now) l.pricing.multipliers.list.now) l.b l.k y) l.b.years l.initial.t l.y l.t

abbrev pub decreases-loop-y : goal.decreases-loop-y
decreases-loop-y l = l.b.years - l.y

abbrev pub invariant-loop-k : goal.invariant-loop-k
invariant-loop-k l = Adding (λ k. of_family (term⁺ (read l.pricing.tested.tables.now.list.now) l.pricing.multipliers.list.now) (box_of (row_boxes l.pricing.multipliers.counts) k) k) (λ k. of_family (term⁻ (read l.pricing.tested.tables.now.list.now) l.pricing.multipliers.list.now) (box_of (row_boxes l.pricing.multipliers.counts) k) k) family_count l.initial.t l.k l.t

abbrev pub decreases-loop-k : goal.decreases-loop-k
decreases-loop-k l = family_count - l.k
