-- Laws of the energies, filled place by place. Assumes nothing.
use mathlib.Core.Path.{◌≡◌, refl, sym, ap, ◌∙◌}
use mathlib.Core.Logic.{⊎_elim}
use mathlib.Core.List.{List, []}
use Prim.Native.Nat.{ℕ, ◌+◌, ◌*◌, ◌≤◌, ◌<◌}
use native.Mathlib.Nat.{eq-or-lt_of_le}
use native.Mathlib.Omega.{arith}
use lib.ListN.{length, get_or, set, length-set}
use lib.Seq.{get_or-set_same, get_or-set_other}
use Rattle.capped.specs.Cap.{cap, kept_as, kept_sum, Sum}
use Rattle.capped.proofs.Laws.{kept-cap}
use Rattle.sums.proofs.Sums.{sum-cong}
use Rattle.sums.proofs.Numbering.{below-product, digits}
use Rattle.sums.specs.Index.{Index}
use Rattle.model.specs.declared.Counts.{Counts}
use Rattle.model.specs.Counts.{slices_of, season_length}
use Rattle.model.specs.Data.{Data, duration}
use Rattle.model.specs.Columns.{gen}
use Rattle.model.specs.Families.{season_sum}
use Rattle.tables.specs.Layout.{Counted, plan_entry}
use Rattle.parts.specs.Years.{YearPart}
use Rattle.energy.specs.Energies.{Energies, energy_count}
use Rattle.energy.proofs.Laws.{season-is, slice-below}

abbrev pub season_energy : Data → (Index → ℕ) → ℕ → ℕ → ℕ → Sum
season_energy D x y g q = cap (season_sum D q (λ s. duration D s * x (gen y g s)))

-- what is kept of a sum over the year's part of gen, which has the plan's entries
pub part-season : (D : Data) {c : Counts} {plan part k : List ℕ} {r : Sum} {y g q : ℕ} → Counted c → D.counts ≡ c → YearPart plan part c 3 y → g < c.plants → q < c.seasons
    → k ≡ kept_as r → r ≡ cap (season_sum D q (λ s. duration D s * get_or part (g * slices_of c + s) 0)) → kept_sum k ≡ season_energy D (plan_entry c plan) y g q
part-season D {c} {plan} {part} {y = y} {g} {q} few e p hg hq ek er =
    let held : ℕ → ℕ = λ s. duration D s * get_or part (g * slices_of c + s) 0 in
    let planned : ℕ → ℕ = λ s. duration D s * plan_entry c plan (gen y g s) in
    rw (ek, er) (kept-cap (season_sum D q held)
    ∙ ap cap
    (sym (season-is D q held e refl)
    ∙ sum-cong (season_length c) (λ i l. ap (λ (v : ℕ). duration D (q * season_length c + i) * v) (p.is g _ hg (slice-below few hq l)))
    ∙ season-is D q planned e refl))

-- every year, plant and season whose number is below `place` has its value
pub record Filled (F : ℕ → ℕ → ℕ → Sum) (G Q : ℕ) (energy : List (List ℕ)) (place : ℕ) : Type 0 where
  pub long : length energy ≡ energy_count
  pub is : (y g q : ℕ) → g < G → q < Q → (y * G + g) * Q + q < place → kept_sum (get_or energy ((y * G + g) * Q + q) []) ≡ F y g q

module _ {F : ℕ → ℕ → ℕ → Sum} {G Q : ℕ} where
  -- a number below place + 1 is below it, or it is place: then year, plant and season are those of the place
  pub fill_one : {energy : List (List ℕ)} {place : ℕ} (v : List ℕ) (y g q : ℕ) → g < G → q < Q → place ≡ (y * G + g) * Q + q → place < energy_count → kept_sum v ≡ F y g q
      → Filled F G Q energy place → Filled F G Q (set energy place v) (place + 1)
  fill_one {energy} {place} v y g q hg hq e h w n = record { long = length-set energy place v ∙ n.long; is = go }
    where
      go : (a b c : ℕ) → b < G → c < Q → (a * G + b) * Q + c < place + 1 → kept_sum (get_or (set energy place v) ((a * G + b) * Q + c) []) ≡ F a b c
      go a b c hb hc l =
          let k = (a * G + b) * Q + c in
          let upto : k ≤ place = omega arith in
          ⊎_elim
          (λ (s : k ≡ place).
          let third = digits Q (a * G + b) (y * G + g) c q hc hq (s ∙ e) in
          let second = digits G a y b g hb hg third.0 in
          rw (s, get_or-set_same energy place v [] (omega (arith, n.long)), w, second.0, second.1, third.1))
          (λ (s : k < place). ap kept_sum (get_or-set_other energy place k v [] (omega arith)) ∙ n.is a b c hb hc s)
          (eq-or-lt_of_le upto)

-- the same at another name of the place: where a season's loop ends the next plant's begins, and so on
pub fill-same : {F : ℕ → ℕ → ℕ → Sum} {G Q m n : ℕ} {energy : List (List ℕ)} → m ≡ n → Filled F G Q energy m → Filled F G Q energy n
fill-same e f = record { long = f.long; is = λ y g q hg hq h. f.is y g q hg hq (rw e h) }

pub energies : {D : Data} {x : Index → ℕ} {energy : List (List ℕ)} {c : Counts} {y : ℕ} → c.years ≤ y
    → Filled (season_energy D x) c.plants c.seasons energy (y * c.plants * c.seasons) → Energies D x energy c
energies {c = c} {y = y} h n =
    record {
      long = n.long;
      is = λ a b d ha hb hd. n.is a b d hb hd (below-product (y * c.plants) c.seasons (below-product y c.plants (omega arith) hb) hd);
    }
