-- Laws of the plants' energies: first what the functions here meet, at the end what the rows cite. Assumes nothing.
use mathlib.Core.Path.{◌≡◌, refl, sym, ap, ◌∙◌}
use mathlib.Core.Bool.{Bool, true, false, ◌&&◌}
use mathlib.Core.List.{List}
use Prim.Native.Nat.{ℕ, zero, suc, ◌+◌, ◌*◌, ◌<◌}
use native.Mathlib.Nat.{add-zero, mul_comm, mul_assoc}
use native.Mathlib.Numerals.{add-one}
use native.Mathlib.Omega.{arith}
use lib.Dec.{eqb}
use Rattle.capped.specs.Cap.{cap, times, Sum}
use Rattle.capped.proofs.Laws.{both-cap, times-cap}
use Rattle.sums.specs.Sum.{sum, on}
use Rattle.sums.proofs.Tests.{on_both}
use Rattle.sums.proofs.Sums.{sum-cong, sum-scale, sum-flat}
use Rattle.sums.proofs.Numbering.{below-product}
use Rattle.sums.specs.Index.{Index}
use Rattle.sums.specs.Linear.{value}
use Rattle.model.specs.declared.Counts.{Counts}
use Rattle.model.specs.Counts.{slices_of, season_length}
use Rattle.model.specs.Data.{Data, G, S, zone, fuel, duration, heat_rate, emission}
use Rattle.model.specs.Columns.{gen}
use Rattle.model.specs.Families.{season_sum, available, fuel_use, zone_emission, system_emission}
use Rattle.tables.specs.Layout.{Counted}
use Rattle.energy.specs.Energies.{Energies, energy_at, both_if, all_if, all_of, year_energy}

-- Loops

-- a turn of a loop that joins the k-th sum where its test holds
pub all_more : {r s t : Sum} {b : Bool} (k : ℕ) (p : ℕ → Bool) (f : ℕ → Sum) → r ≡ both_if b s t → s ≡ all_if k p f → b ≡ p k → t ≡ f k → r ≡ all_if (k + 1) p f
unfolding all_if
all_more k p f e h v w = e ∙ rw (h, v, w) (ap (λ (n : ℕ). all_if n p f) (sym (add-one k)))

-- Slices of a season

module _ {c : Counts} (few : Counted c) where
  -- a slice of a season is one of the year's
  pub slice-below : {q i : ℕ} → q < c.seasons → i < season_length c → q * season_length c + i < slices_of c
  slice-below hq hi = omega (arith, below-product c.seasons (season_length c) hq hi, mul_assoc c.seasons c.days c.hours)

-- a season's sum by the counts
pub season-is : (D : Data) {c : Counts} {n : ℕ} (q : ℕ) (f : ℕ → ℕ) → D.counts ≡ c → n ≡ season_length c
    → sum n (λ i. f (q * season_length c + i)) ≡ season_sum D q f
season-is D q f e h = rw (e, h)

-- Sums that are `cap` of exact numbers

if-cap : (b : Bool) (m n : ℕ) → both_if b (cap m) (cap n) ≡ cap (m + on b n)
if-cap true m n = both-cap m n
if-cap false m n = ap cap (sym (add-zero m))

pub all-cap : (n : ℕ) (p : ℕ → Bool) (f : ℕ → Sum) (h : ℕ → ℕ) → ((i : ℕ) → i < n → f i ≡ cap (h i)) → all_if n p f ≡ cap (sum n (λ i. on (p i) (h i)))
unfolding all_if sum
all-cap zero p f h e = refl
all-cap (suc n) p f h e = rw (all-cap n p f h (λ i l. e i (omega arith)), e n (omega arith)) (if-cap (p n) (sum n (λ i. on (p i) (h i))) (h n))

-- the slices of a year, season by season
slices-by-season : (c : Counts) (f : ℕ → ℕ) → sum (slices_of c) f ≡ sum c.seasons (λ q. sum (season_length c) (λ i. f (q * season_length c + i)))
slices-by-season c f = rw (mul_assoc c.seasons c.days c.hours) (sum-flat c.seasons (season_length c) f)

-- The energies are those of the plan: what the rows of families 10, 17, 19 and 20 cite
module _ {D : Data} {x : Index → ℕ} {energy : List (List ℕ)} {c : Counts} (n : Energies D x energy c) (e : D.counts ≡ c) {y : ℕ} (hy : y < c.years) where
  season-energy : (f g q : ℕ) → g < c.plants → q < c.seasons
      → times (energy_at c energy y g q) f ≡ cap (season_sum D q (λ s. f * duration D s * x (gen y g s)))
  season-energy f g q hg hq =
      rw (n.is y g q hy hg hq) (times-cap _ f
      ∙ ap cap (mul_comm _ f ∙ sym (sum-scale _ f _) ∙ sum-cong _ (λ i l. sym (mul_assoc f _ _))))

  year-energy : (f g : ℕ) → g < c.plants → year_energy c energy f y g ≡ cap (sum (S D) (λ s. duration D s * f * x (gen y g s)))
  year-energy f g hg =
      let term : ℕ → ℕ = λ s. duration D s * f * x (gen y g s) in
      all-cap c.seasons (λ q. true) _ (λ q. season_sum D q term) (λ q l. season-energy f g q hg l ∙ ap cap (sum-cong _ (λ i _. omega arith)))
      ∙ ap (λ (k : Counts). cap (sum k.seasons (λ q. season_sum D q term))) (sym e) ∙ ap cap (sym (slices-by-season D.counts term))

  -- plant by plant, under any test and with any factor
  plants-energy : (p : ℕ → Bool) (f : ℕ → ℕ)
      → all_if c.plants p (λ g. year_energy c energy (f g) y g) ≡ cap (sum (G D) (λ g. on (p g) (sum (S D) (λ s. duration D s * f g * x (gen y g s)))))
  plants-energy p f =
      let h : ℕ → ℕ = λ g. sum (S D) (λ s. duration D s * f g * x (gen y g s)) in
      all-cap c.plants p _ h (λ g l. year-energy (f g) g l) ∙ ap (λ (k : Counts). cap (sum k.plants (λ g. on (p g) (h g)))) (sym e)

  -- 10
  pub available-energy : (g q : ℕ) → g < c.plants → q < c.seasons → times (energy_at c energy y g q) 1000 ≡ cap (value (available D y g q).negative x)
  unfolding available
  available-energy g q hg hq = season-energy 1000 g q hg hq

  -- 17
  pub fuel-energy : (z f : ℕ)
      → all_if c.plants (λ g. eqb (zone D g) z && eqb (fuel D g) f) (λ g. year_energy c energy (heat_rate D g) y g) ≡ cap (value (fuel_use D y z f).negative x)
  unfolding fuel_use
  fuel-energy z f = plants-energy _ (λ g. heat_rate D g) ∙ ap cap (sum-cong (G D) (λ g l. on_both (eqb (zone D g) z) (eqb (fuel D g) f) _))

  -- 19
  pub zone-energy : (z : ℕ) → all_if c.plants (λ g. eqb (zone D g) z) (λ g. year_energy c energy (emission D g) y g) ≡ cap (value (zone_emission D y z).negative x)
  unfolding zone_emission
  zone-energy z = plants-energy _ (λ g. emission D g)

  -- 20
  pub system-energy : all_of c.plants (λ g. year_energy c energy (emission D g) y g) ≡ cap (value (system_emission D y).negative x)
  unfolding system_emission
  system-energy = plants-energy _ (λ g. emission D g)
