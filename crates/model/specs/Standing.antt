-- For each kind of column, the rows that it stands in and its coefficients there: the equations read by column.
use Rattle.std.specs.Prelude.{◌≡◌, not, ◌&&◌, ◌||◌, List, [], ◌∷◌, ℕ, ◌+◌, ◌*◌, ◌-◌, ◌<◌, eqb, ltb, get_or}
use Rattle.sums.specs.Span.{total}
use Rattle.sums.specs.Index.{Index, index, Member}
use Rattle.sums.specs.Linear.{Linear, nothing, ◌·◌, ∑, ◌⊕◌, when, value, coefficient}
use Rattle.model.specs.Data.{Data, rate, weight, duration, zone, fuel, over_load, res_offer, ramp_dn, ramp_up, min_cap_fac, cap_credit, heat_rate, emission, availability, profile, annuity, loss, err, Z, G, F, Q, Y, S, existing, candidate, season, after_first_hour, on_min_load_day, is_vre, is_battery, efficiency, mw_per_line}
use Rattle.model.specs.Columns.{column_boxes}
use Rattle.model.specs.Families.{rows, row, equation, season_sum, out_of_service}

module _ (D : Data) where
  -- A plant's column of a slice in its two ramps over the hour before, families `fall` and `rise`: with one sign in the slice's own row of
  -- the fall and in the next slice's of the rise; with the other in the slice's own row of the rise and in the next slice's of the fall.
  abbrev pub ramps_in : ℕ → ℕ → ℕ → ℕ → ℕ → Linear
  ramps_in fall rise y g s =
      when (after_first_hour D s) (1000 · row fall y g 0 s)
      ⊕ when (after_first_hour D (s + 1)) (1000 · row rise y g 0 (s + 1))

  -- positive coefficients
  -- cap in the rows of one slice
  unfoldable pub cap_in_slice⁺ : ℕ → ℕ → ℕ → Linear
  cap_in_slice⁺ y g s =
      (1000 + over_load D g) · row 5 y g 0 s
      ⊕ res_offer D g · row 6 y g 0 s
      ⊕ when (after_first_hour D s) (ramp_dn D g · row 7 y g 0 s)
      ⊕ when (after_first_hour D s) (ramp_up D g · row 8 y g 0 s)
      ⊕ when (is_vre D g) (profile D g s · row 11 y g 0 s)
      ⊕ when (is_battery D g) (1 · row 22 y g 0 s)
      ⊕ when (is_battery D g) (when (after_first_hour D s) (ramp_dn D g · row 23 y g 0 s))
      ⊕ when (is_battery D g) (when (after_first_hour D s) (ramp_up D g · row 24 y g 0 s))

  unfoldable pub cap_in⁺ : ℕ → ℕ → Linear
  cap_in⁺ y g =
      cap_credit D g · row 4 y (zone D g) 0 0
      ⊕ ∑ (S D) (cap_in_slice⁺ y g)
      ⊕ ∑ (Q D) (λ q. (availability D g q * season_sum D q (λ s. duration D s)) · row 10 y g 0 q)
      ⊕ 1 · row 12 y g 0 0

  unfoldable pub retire_in⁺ : ℕ → ℕ → Linear
  retire_in⁺ y g = when (existing D g && ltb 0 y) (1 · row 12 y g 0 0)

  unfoldable pub gen_in⁺ : ℕ → ℕ → ℕ → Linear
  gen_in⁺ y g s =
      1000 · row 1 y (zone D g) 0 s
      ⊕ ramps_in 7 8 y g s
      ⊕ when (on_min_load_day D s) (1000 · row 9 y g 0 s)
      ⊕ when (is_battery D g) (1000 · row 21 y g 0 s)

  unfoldable pub reserve_in⁺ : ℕ → ℕ → ℕ → Linear
  reserve_in⁺ y g s = 1000 · row 3 y (zone D g) 0 s

  -- the receiving zone has the loss
  unfoldable pub trans_in⁺ : ℕ → ℕ → ℕ → ℕ → Linear
  trans_in⁺ y z w s = when (not (eqb z w)) ((1000 - loss D y z w) · row 1 y w 0 s)

  unfoldable pub charge_in⁺ : ℕ → ℕ → ℕ → Linear
  charge_in⁺ y g s = when (is_battery D g) (ramps_in 24 23 y g s)

  unfoldable pub level_in⁺ : ℕ → ℕ → ℕ → Linear
  level_in⁺ y g s = when (is_battery D g) (1 · row 21 y g 0 s)

  -- the total of a direction in the rows of one slice: what may flow, and the receiving zone's reserve
  unfoldable pub total_in_slice⁺ : ℕ → ℕ → ℕ → ℕ → Linear
  total_in_slice⁺ y z w s = mw_per_line D z w · row 2 y z w s ⊕ when (not (eqb z w)) ((1000 * mw_per_line D z w) · row 3 y w 0 s)

  unfoldable pub total_in⁺ : ℕ → ℕ → ℕ → Linear
  total_in⁺ y z w = ∑ (S D) (total_in_slice⁺ y z w) ⊕ 1 · row 26 y z w 0 ⊕ when (ltb z w) (1 · row 28 y z w 0)

  unfoldable pub standing⁺ : Index → Linear
  unfolding cap_in_slice⁺ cap_in⁺ retire_in⁺ gen_in⁺ reserve_in⁺ trans_in⁺ charge_in⁺ level_in⁺ total_in_slice⁺ total_in⁺
  standing⁺ (index k y i j s) =
      get_or (cap_in⁺ y i ∷ nothing ∷ retire_in⁺ y i ∷ gen_in⁺ y i s ∷ reserve_in⁺ y i s ∷ trans_in⁺ y i j s ∷ 1 · row 1 y i 0 s ∷ nothing ∷ 1 · row 3 y i 0 s ∷ 1 · row 4 y i 0 0 ∷ charge_in⁺ y i s ∷ level_in⁺ y i s ∷ nothing ∷ total_in⁺ y i j ∷ [])
      k nothing

  -- negative coefficients
  unfoldable pub cap_in⁻ : ℕ → ℕ → Linear
  cap_in⁻ y g =
      ∑ (S D) (λ s. when (on_min_load_day D s) (min_cap_fac D g · row 9 y g 0 s))
      ⊕ when (ltb (y + 1) (Y D)) (1 · row 12 (y + 1) g 0 0)
      ⊕ when (out_of_service D y g) (1 · row 13 y g 0 0)
      ⊕ when (candidate D g) ((rate D y * weight D y * annuity D y g) · row 18 0 0 0 0)

  unfoldable pub build_in⁻ : ℕ → ℕ → Linear
  build_in⁻ y g =
      when (candidate D g) (1 · row 12 y g 0 0)
      ⊕ when (existing D g) (1 · row 14 y g 0 0)
      ⊕ when (candidate D g) (1 · row 15 0 g 0 0)
      ⊕ when (candidate D g) (1 · row 16 y g 0 0)

  unfoldable pub retire_in⁻ : ℕ → ℕ → Linear
  retire_in⁻ y g = when (candidate D g || eqb y 0) (1 · row 14 y g 0 0)

  unfoldable pub gen_in⁻ : ℕ → ℕ → ℕ → Linear
  gen_in⁻ y g s =
      when (is_vre D g) (err D · row 3 y (zone D g) 0 s)
      ⊕ 1000 · row 5 y g 0 s
      ⊕ ramps_in 8 7 y g s
      ⊕ (1000 * duration D s) · row 10 y g 0 (season D s)
      ⊕ when (is_vre D g) (1000 · row 11 y g 0 s)
      ⊕ (duration D s * heat_rate D g) · row 17 y (zone D g) (fuel D g) 0
      ⊕ (duration D s * emission D g) · row 19 y (zone D g) 0 0
      ⊕ (duration D s * emission D g) · row 20 y 0 0 0

  unfoldable pub reserve_in⁻ : ℕ → ℕ → ℕ → Linear
  reserve_in⁻ y g s = 1000 · row 5 y g 0 s ⊕ 1000 · row 6 y g 0 s

  unfoldable pub trans_in⁻ : ℕ → ℕ → ℕ → ℕ → Linear
  trans_in⁻ y z w s = when (not (eqb z w)) (1000 · row 1 y z 0 s) ⊕ 1 · row 2 y z w s ⊕ when (not (eqb z w)) (1000 · row 3 y w 0 s)

  unfoldable pub charge_in⁻ : ℕ → ℕ → ℕ → Linear
  charge_in⁻ y g s =
      1000 · row 1 y (zone D g) 0 s
      ⊕ when (is_battery D g) (efficiency D g · row 21 y g 0 s)
      ⊕ 1 · row 22 y g 0 s
      ⊕ when (is_battery D g) (ramps_in 23 24 y g s)

  -- the level of a slice is what the next one of its day starts from
  unfoldable pub level_in⁻ : ℕ → ℕ → ℕ → Linear
  level_in⁻ y g s = when (is_battery D g) (when (after_first_hour D (s + 1)) (1 · row 21 y g 0 (s + 1))) ⊕ 1 · row 25 y g 0 s

  unfoldable pub built_in⁻ : ℕ → ℕ → ℕ → Linear
  built_in⁻ y z w = 1 · row 26 y z w 0 ⊕ 1 · row 27 0 z w 0

  -- the total of a year is what the next one starts from; from the higher zone it is the right side of the lower one's row
  unfoldable pub total_in⁻ : ℕ → ℕ → ℕ → Linear
  total_in⁻ y z w = when (ltb (y + 1) (Y D)) (1 · row 26 (y + 1) z w 0) ⊕ when (ltb w z) (1 · row 28 y w z 0)

  unfoldable pub standing⁻ : Index → Linear
  unfolding cap_in⁻ build_in⁻ retire_in⁻ gen_in⁻ reserve_in⁻ trans_in⁻ charge_in⁻ level_in⁻ built_in⁻ total_in⁻
  standing⁻ (index k y i j s) =
      get_or (cap_in⁻ y i ∷ build_in⁻ y i ∷ retire_in⁻ y i ∷ gen_in⁻ y i s ∷ reserve_in⁻ y i s ∷ trans_in⁻ y i j s ∷ nothing ∷ 1 · row 1 y i 0 s ∷ nothing ∷ nothing ∷ charge_in⁻ y i s ∷ level_in⁻ y i s ∷ built_in⁻ y i j ∷ total_in⁻ y i j ∷ [])
      k nothing

  -- the plants' zones and fuels are in range, as refusal 3 has it
  pub record Placed : Type 0 where
    pub zoned : (g : ℕ) → g < G D → zone D g < Z D
    pub fuelled : (g : ℕ) → g < G D → fuel D g < F D

-- the sum over all rows of a column's coefficients times any numbers is the sum over these few
abbrev pub Stands : Data → Type 0
Stands D =
    Placed D → (c : Index) → Member (column_boxes D.counts) c → (m : Index → ℕ)
    → (total (rows D) (λ r. m r * coefficient (equation D r).positive c) ≡ value (standing⁺ D c) m)
    × (total (rows D) (λ r. m r * coefficient (equation D r).negative c) ≡ value (standing⁻ D c) m)
