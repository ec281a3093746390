-- The plants' energy Σ Dur·gen by year and season, in a list of kept sums, and sums of them.
use Rattle.std.specs.Prelude.{◌≡◌, Bool, true, false, List, [], ℕ, zero, suc, ◌+◌, ◌*◌, ◌<◌, length, get_or}
use Rattle.capped.specs.Cap.{cap, both, times, kept_sum, Sum}
use Rattle.sums.specs.Index.{Index}
use Rattle.model.specs.declared.Counts.{Counts}
use Rattle.model.specs.Data.{Data, duration}
use Rattle.model.specs.Columns.{gen}
use Rattle.model.specs.Families.{season_sum}

-- the energy of year y, plant g and season q stands at (y·G + g)·Q + q
abbrev pub energy_place : Counts → ℕ → ℕ → ℕ → ℕ
energy_place c y g q = (y * c.plants + g) * c.seasons + q

abbrev pub energy_at : Counts → List (List ℕ) → ℕ → ℕ → ℕ → Sum
energy_at c energy y g q = kept_sum (get_or energy (energy_place c y g q) [])

-- how many a list of them holds: 10 years, 32 plants and 4 seasons, the most of each
abbrev pub energy_count : ℕ
energy_count = 1280

-- it is Σ Dur·gen
pub record Energies (D : Data) (x : Index → ℕ) (energy : List (List ℕ)) (c : Counts) : Type 0 where
  pub long : length energy ≡ energy_count
  pub is : (y g q : ℕ) → y < c.years → g < c.plants → q < c.seasons
      → energy_at c energy y g q ≡ cap (season_sum D q (λ s. duration D s * x (gen y g s)))

-- s + t where the test holds, else s
abbrev pub both_if : Bool → Sum → Sum → Sum
both_if true s t = both s t
both_if false s t = s

-- the sum of those of f 0 to f (n - 1) whose test holds, and of all of them
unfoldable pub all_if : ℕ → (ℕ → Bool) → (ℕ → Sum) → Sum
all_if zero p f = cap 0
all_if (suc n) p f = both_if (p n) (all_if n p f) (f n)

abbrev pub all_of : ℕ → (ℕ → Sum) → Sum
all_of n f = all_if n (λ i. true) f

-- a factor times a plant's energies of one year
abbrev pub year_energy : Counts → List (List ℕ) → ℕ → ℕ → ℕ → Sum
year_energy c energy f y g = all_of c.seasons (λ q. times (energy_at c energy y g q) f)
