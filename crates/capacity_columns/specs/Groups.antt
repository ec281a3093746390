-- The rows of the column cap in the groups in which the code sums them; together they are `cap_in⁺` and `cap_in⁻` of the model.
use Rattle.std.specs.Prelude.{ℕ, ◌+◌, ◌*◌, ltb}
use Rattle.sums.specs.Linear.{Linear, ◌·◌, ◌⊕◌, when}
use Rattle.model.specs.Data.{Data, rate, weight, duration, zone, over_load, res_offer, ramp_dn, ramp_up, min_cap_fac, cap_credit, availability, annuity, Y, candidate, on_min_load_day, is_vre, is_battery}
use Rattle.model.specs.Families.{row, season_sum, out_of_service}
use Rattle.capacity_columns.specs.declared.Rates.{Rates}

module _ (D : Data) where
  -- a plant's coefficients in every slice
  unfoldable pub rates_of : ℕ → Rates
  rates_of g = record { load = 1000 + over_load D g; offer = res_offer D g; down = ramp_dn D g; up = ramp_up D g; least = min_cap_fac D g; vre = is_vre D g; battery = is_battery D g }

  -- family 9, beside the model's `cap_in_slice⁺`
  unfoldable pub cap_in_slice⁻ : ℕ → ℕ → ℕ → Linear
  cap_in_slice⁻ y g s = when (on_min_load_day D s) (min_cap_fac D g · row 9 y g 0 s)

  -- family 10
  unfoldable pub cap_in_season⁺ : ℕ → ℕ → ℕ → Linear
  cap_in_season⁺ y g q = (availability D g q * season_sum D q (λ s. duration D s)) · row 10 y g 0 q

  -- families 4, 12, 13 and 18
  unfoldable pub cap_in_year⁺ : ℕ → ℕ → Linear
  cap_in_year⁺ y g = cap_credit D g · row 4 y (zone D g) 0 0 ⊕ 1 · row 12 y g 0 0

  unfoldable pub cap_in_year⁻ : ℕ → ℕ → Linear
  cap_in_year⁻ y g =
      when (ltb (y + 1) (Y D)) (1 · row 12 (y + 1) g 0 0)
      ⊕ when (out_of_service D y g) (1 · row 13 y g 0 0)
      ⊕ when (candidate D g) ((rate D y * weight D y * annuity D y g) · row 18 0 0 0 0)
