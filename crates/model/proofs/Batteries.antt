-- What the rows of families 21, 22 and 25 say of every plan that meets them, and what refusal 16 says of the data.
use mathlib.Core.Path.{◌≡◌, refl, sym, ap, subst, ◌∙◌}
use mathlib.Core.Bool.{Bool, true, false, not, ◌&&◌}
use Prim.Native.Nat.{ℕ, ◌+◌, ◌*◌, ◌-◌, ◌≤◌, ◌<◌}
use native.Mathlib.Omega.{arith}
use lib.Dec.{ltb}
use borrow.Author.Tests.{not-true, not-false}
use Rattle.sums.specs.Sum.{on}
use Rattle.sums.specs.Span.{fine, fault, or_else}
use Rattle.sums.specs.Index.{Index, index, members}
use Rattle.sums.proofs.Tests.{on-false, on-true}
use Rattle.sums.proofs.Spans.{upto-fine, upto-passed, upto-stop, from_either, from-range, from_member}
use Rattle.model.specs.declared.Refusal.TheVariants.{Storage}
use Rattle.model.specs.Data.{Data, read, table_boxes, is_battery, is_vre, efficiency, energy_capacity, hour, after_first_hour, Y, G, S}
use Rattle.model.specs.Columns.{entries, cap, gen, charge, level}
use Rattle.model.specs.Families.{row, equation, family_of, row_boxes}
use Rattle.model.specs.Tests.{unless, head_fault, count_fault, counts_fault, length_fault, entry_fault, entries_fault, plant_storage_fault, storage_fault, data_fault, constant⁺, constant⁻, above, below}
use Rattle.model.specs.Rival.{Rival}
use Rattle.model.specs.Claims.{VreBattery, StorageRefused, StorageGiven, Uncharged, NoBattery, NoBatteryAccepted, EmptyAtMidnight, DaysApart}
use Rattle.model.proofs.Sound.{passed, failed, own-refusal, both}
use Rattle.model.proofs.Accepted.{accepted-meets}

module _ (D : Data) (M : ℕ) (x : Index → ℕ) (plan : Rival D M x) (y g s : ℕ) (hy : y < Y D) (hg : g < G D) (hs : s < S D) where
  -- 22: charge ≤ cap of a battery
  charge-row : x (charge y g s) ≤ on (is_battery D g) (1 * x (cap y g))
  unfolding equation family_of row_boxes above below constant⁺ constant⁻
  charge-row = omega (arith, plan.meets (row 22 y g 0 s) (omega arith, hy, hg, omega arith, hs))

  -- 25: level ≤ energy capacity of a battery
  level-row : x (level y g s) ≤ M * on (is_battery D g) (energy_capacity D g)
  unfolding equation family_of row_boxes above below constant⁺ constant⁻
  level-row =
      let k : constant⁺ D (row 25 y g 0 s) ≡ on (is_battery D g) (energy_capacity D g) = omega arith in
      omega (arith, plan.meets (row 25 y g 0 s) (omega arith, hy, hg, omega arith, hs), ap (λ (v : ℕ). M * v) k)

  -- 21
  balance-row :
      on (is_battery D g) (on (after_first_hour D s) (1 * x (level y g (s - 1))) + efficiency D g * x (charge y g s))
      ≡ on (is_battery D g) (1 * x (level y g s) + 1000 * x (gen y g s))
  unfolding equation family_of row_boxes above below constant⁺ constant⁻
  balance-row = omega (arith, plan.meets (row 21 y g 0 s) (omega arith, hy, hg, omega arith, hs))

  uncharged : is_battery D g ≡ false → Uncharged x y g s
  uncharged e = record {
    no_charge = omega (arith, charge-row, on-false _ (1 * x (cap y g)) e);
    no_level = omega (arith, level-row, ap (λ (v : ℕ). M * v) (on-false _ (energy_capacity D g) e));
  }

  from_empty : hour D s ≡ 0 → is_battery D g ≡ true → x (level y g s) + 1000 * x (gen y g s) ≡ efficiency D g * x (charge y g s)
  from_empty h e =
      let first : after_first_hour D s ≡ false = ap (λ (t : ℕ). ltb 0 t) h in
      omega (
        arith,
        balance-row,
        on-false (after_first_hour D s) (1 * x (level y g (s - 1))) first,
        on-true (is_battery D g) (on (after_first_hour D s) (1 * x (level y g (s - 1))) + efficiency D g * x (charge y g s)) e,
        on-true (is_battery D g) (1 * x (level y g s) + 1000 * x (gen y g s)) e,
      )

pub no-battery : NoBattery
no-battery = uncharged

pub no-battery-accepted : NoBatteryAccepted
no-battery-accepted l N plan c e = uncharged (read l) N (entries (read l) plan) (accepted-meets l N plan c e)

pub empty-at-midnight : EmptyAtMidnight
empty-at-midnight = from_empty

pub days-apart : DaysApart
days-apart D M L x w p q y g s hy hg hs h c o = go (is_battery D g) refl
  where
    go : (b : Bool) → is_battery D g ≡ b → L * x (level y g s) ≡ M * w (level y g s)
    go true e =
        omega (
          arith,
          ap (λ (v : ℕ). L * v) (from_empty D M x p y g s hy hg hs h e),
          ap (λ (v : ℕ). M * v) (from_empty D L w q y g s hy hg hs h e),
          ap (λ (v : ℕ). efficiency D g * v) c,
          o,
        )
    go false e =
        omega (arith, ap (λ (v : ℕ). L * v) (uncharged D M x p y g s hy hg hs e).no_level, ap (λ (v : ℕ). M * v) (uncharged D L w q y g s hy hg hs e).no_level)

apart : ◌≡◌ {A = ℕ} 0 1 → ⊥
apart z = omega arith

-- no other test refuses with 16
not_entry : (D : Data) (i : Index) (g : ℕ) → entry_fault D i ≡ fault (Storage g) → ⊥
unfolding entry_fault
not_entry D (index t y i j s) g e =
    let other = own-refusal _ _ e in apart (cc)

-- a plant's test of refusal 16, by what is found of it
module _ (D : Data) (g : ℕ) {found : Bool} (tested : found ≡ (is_battery D g && is_vre D g)) where
  pub plant-passed : found ≡ false → plant_storage_fault D g ≡ fine
  unfolding plant_storage_fault unless
  plant-passed e = ap (λ (b : Bool). unless (not b) (Storage g)) (sym tested ∙ e)

  pub plant-refused : found ≡ true → plant_storage_fault D g ≡ fault (Storage g)
  unfolding plant_storage_fault unless
  plant-refused e = ap (λ (b : Bool). unless (not b) (Storage g)) (sym tested ∙ e)

module _ (D : Data) (g : ℕ) where
  found : entries_fault D ≡ fine → storage_fault D ≡ fault (Storage g) → VreBattery D g
  unfolding storage_fault plant_storage_fault
  found entries e =
      let d = from-range (G D) (plant_storage_fault D) e in
      let own = own-refusal _ (Storage d.0) d.2 in
      let same : d.0 ≡ g = cc in
      let flags = both (is_battery D d.0) (is_vre D d.0) (not-false _ (failed _ (Storage d.0) d.2)) in
      subst (VreBattery D) same record {
        in_range = entries;
        plant = d.1;
        battery = flags.0;
        vre = flags.1;
        lowest = λ h l. not-true _ (passed _ (Storage h) (upto-fine d.0 (plant_storage_fault D) d.3 h l));
      }

pub storage-refused : StorageRefused
unfolding data_fault head_fault counts_fault count_fault length_fault entries_fault
storage-refused l g e =
    from_either (head_fault l) _ e (λ p. let other = own-refusal _ _ p in absurd (apart (cc))) (λ _ e1.
    from_either (counts_fault l) _ e1 (λ p. let other = own-refusal _ _ (from-range 7 (count_fault l) p).2 in absurd (apart (cc))) (λ _ e2.
    from_either (length_fault l) _ e2 (λ p. let other = own-refusal _ _ p in absurd (apart (cc))) (λ _ e3.
    from_either (entries_fault (read l)) _ e3 (λ p. let m = from_member (members (table_boxes (read l).counts)) (entry_fault (read l)) p in absurd (not_entry (read l) m.0 g m.2))
    (found (read l) g))))

pub storage-given : StorageGiven
unfolding data_fault or_else storage_fault
storage-given l g a b c v =
    let D = read l in
    rw (a, b, c, v.in_range) (upto-stop (G D) g (plant_storage_fault D) v.plant (upto-passed g (plant_storage_fault D) (λ h below. plant-passed D h refl (v.lowest h below))) (plant-refused D g refl (rw (v.battery, v.vre))))
