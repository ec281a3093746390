-- The rows of the column gen in the groups in which the code sums them; with its ramps and family 21 they are together `gen_in⁺` and `gen_in⁻` of the model.
use Rattle.std.specs.Prelude.{ℕ, ◌*◌}
use Rattle.sums.specs.Linear.{Linear, ◌·◌, ◌⊕◌, when}
use Rattle.model.specs.Data.{Data, duration, zone, fuel, heat_rate, emission, err, season, on_min_load_day, is_vre}
use Rattle.model.specs.Families.{row}

module _ (D : Data) where
  -- families 1, 3, 17, 19 and 20
  unfoldable pub gen_in_zone⁺ : ℕ → ℕ → ℕ → Linear
  gen_in_zone⁺ y g s = 1000 · row 1 y (zone D g) 0 s

  unfoldable pub gen_in_zone⁻ : ℕ → ℕ → ℕ → Linear
  gen_in_zone⁻ y g s =
      when (is_vre D g) (err D · row 3 y (zone D g) 0 s)
      ⊕ (duration D s * heat_rate D g) · row 17 y (zone D g) (fuel D g) 0
      ⊕ (duration D s * emission D g) · row 19 y (zone D g) 0 0
      ⊕ (duration D s * emission D g) · row 20 y 0 0 0

  -- families 5, 9, 10 and 11
  unfoldable pub gen_in_load⁺ : ℕ → ℕ → ℕ → Linear
  gen_in_load⁺ y g s = when (on_min_load_day D s) (1000 · row 9 y g 0 s)

  unfoldable pub gen_in_load⁻ : ℕ → ℕ → ℕ → Linear
  gen_in_load⁻ y g s = 1000 · row 5 y g 0 s ⊕ (1000 * duration D s) · row 10 y g 0 (season D s) ⊕ when (is_vre D g) (1000 · row 11 y g 0 s)
