-- The families of rows: the fixed table, and each family's equation.
-- "L ≤ R" is read as R − L ≥ 0, the others as L − R; positive and negative terms stand apart.
use Rattle.std.specs.Prelude.{Bool, true, false, not, ◌&&◌, ◌||◌, List, [], ◌∷◌, map, ℕ, ◌+◌, ◌*◌, ◌-◌, ◌^◌, eqb, leb, ltb, get_or}
use Rattle.sums.specs.Sum.{sum, on}
use Rattle.sums.specs.Span.{Span}
use Rattle.sums.specs.declared.Box.{Box}
use Rattle.sums.specs.Index.{Index, index, box_of, volume, members, number}
use Rattle.sums.specs.Linear.{Linear, nothing, ◌·◌, ∑, ◌⊕◌, when}
use Rattle.model.specs.declared.Family.{Family}
use Rattle.model.specs.declared.Shape.{Shape}
use Rattle.model.specs.Counts.{Counts, sets, [yzs], [yzzs], [yz], [ygs], [ygq], [yg], [g], [yzf], [one], [y], [yzz], [zz]}
use Rattle.model.specs.Data.{Data, rate, weight, duration, zone, fuel, gen_cap, year, max_new_cap, over_load, res_offer, ramp_dn, ramp_up, min_cap_fac, cap_credit, heat_rate, emission, availability, profile, annuity, demand, ee, s_res, prm, tl, loss, zone_cap, system_cap, max_fuel, build_limit, err, max_capital, Z, G, Y, S, P, existing, candidate, season, after_first_hour, on_min_load_day, is_vre, is_battery, efficiency, energy_capacity, line_limit, mw_per_line, peak, lowest_limit}
use Rattle.model.specs.Columns.{cap, build, retire, gen, reserve, trans, unmet, surplus, spinshort, firmshort, charge, level, built_lines, total_lines}

abbrev pub family : ℕ → ℕ → Bool → Family
family n k e = record { equation = n; set = k; equal = e }

-- equation number (0: the source has none), index set, equality
abbrev pub families : List Family
families =
    family 14 [yzs] true  -- 1
    ∷ family 15 [yzzs] false  -- 2
    ∷ family 19 [yzs] false  -- 3
    ∷ family 21 [yz] false  -- 4
    ∷ family 22 [ygs] false  -- 5
    ∷ family 23 [ygs] false  -- 6
    ∷ family 24 [ygs] false  -- 7
    ∷ family 25 [ygs] false  -- 8
    ∷ family 26 [ygs] false  -- 9
    ∷ family 27 [ygq] false  -- 10
    ∷ family 28 [ygs] false  -- 11
    ∷ family 34 [yg] true  -- 12
    ∷ family 37 [yg] false  -- 13
    ∷ family 61 [yg] false  -- 14
    ∷ family 55 [g] false  -- 15
    ∷ family 58 [yg] false  -- 16
    ∷ family 62 [yzf] false  -- 17
    ∷ family 64 [one] false  -- 18
    ∷ family 66 [yz] false  -- 19
    ∷ family 68 [y] false  -- 20
    ∷ family 43 [ygs] true  -- 21, with (42) in a day's first slice
    ∷ family 45 [ygs] false  -- 22
    ∷ family 47 [ygs] false  -- 23
    ∷ family 48 [ygs] false  -- 24
    ∷ family 46 [ygs] false  -- 25
    ∷ family 0 [yzz] true  -- 26, printed after (15) without a number, as the two below
    ∷ family 0 [zz] false  -- 27
    ∷ family 0 [yzz] true  -- 28
    ∷ []

-- how many families there are
abbrev pub family_count : ℕ
family_count = 28

unfoldable pub family_of : ℕ → Family
family_of k = get_or families k (family 0 0 false)

unfoldable pub row_boxes : Counts → List Box
row_boxes c = map (λ f. box_of (sets c) f.set) families

-- the counts and the family sizes that follow from them, in one record
unfoldable pub shape_of : Counts → Shape
shape_of c = record { counts = c; sizes = map (λ (b : Box). volume b) (row_boxes c) }

-- all rows in order
abbrev pub rows : Data → Span Index
rows D = members (row_boxes D.counts)

abbrev pub row_number : Data → Index → ℕ
row_number D r = number (row_boxes D.counts) r

-- a row of a family, counted from 1 as document 01 does
abbrev pub row : ℕ → ℕ → ℕ → ℕ → ℕ → Index
row k y i j s = index (k - 1) y i j s

-- a row's family, counted from 0, and whether the row is an equality
abbrev pub family_in : Index → ℕ
family_in (index k y i j s) = k

abbrev pub equal : Index → Bool
equal r = (family_of (family_in r)).equal

-- A row: its positive and its negative terms, and what its constant adds and takes off.
pub record Equation : Type 0 where
  pub positive : Linear
  pub negative : Linear
  pub plus : ℕ
  pub minus : ℕ

-- a row whose condition fails reads 0 ≥ 0
abbrev pub only : Bool → Equation → Equation
only b e = record { positive = when b e.positive; negative = when b e.negative; plus = on b e.plus; minus = on b e.minus }

abbrev pub empty : Equation
empty = record { positive = nothing; negative = nothing; plus = 0; minus = 0 }

-- an upper limit: e ≤ most
abbrev pub at_most : Linear → ℕ → Equation
at_most e most = record { positive = nothing; negative = e; plus = most; minus = 0 }

-- the column of the year before, nothing in the first year
abbrev pub earlier : ℕ → (ℕ → Index) → Linear
earlier y c = when (ltb 0 y) (1 · c (y - 1))

module _ (D : Data) where
  -- the i-th slice of season q
  abbrev pub slice_of : ℕ → ℕ → ℕ
  slice_of q i = q * P D + i

  -- the plants of zone z
  abbrev pub in_zone : ℕ → (ℕ → Linear) → Linear
  in_zone z e = ∑ (G D) (λ g. when (eqb (zone D g) z) (e g))

  -- the zones other than z
  abbrev pub others : ℕ → (ℕ → Linear) → Linear
  others z e = ∑ (Z D) (λ u. when (not (eqb u z)) (e u))

  abbrev pub others_sum : ℕ → (ℕ → ℕ) → ℕ
  others_sum z f = sum (Z D) (λ u. on (not (eqb u z)) (f u))

  -- the slices of season q
  abbrev pub in_season : ℕ → (ℕ → Linear) → Linear
  in_season q e = ∑ (P D) (λ i. e (slice_of q i))

  abbrev pub season_sum : ℕ → (ℕ → ℕ) → ℕ
  season_sum q f = sum (P D) (λ i. f (slice_of q i))

  -- a ramp over the hour before, t > 0: 1000·(high − low) ≤ allowed; of high and low one is the slice's own column, the other that of the slice before
  abbrev pub ramp : ℕ → Linear → Index → Index → Equation
  ramp s allowed high low = only (after_first_hour D s) (record { positive = allowed ⊕ 1000 · low; negative = 1000 · high; plus = 0; minus = 0 })

  -- 1 (14): 1000·Σ gen in z − 1000·Σ charge in z − 1000·Σ trans[z,z2] + Σ (1000 − Loss[z2,z])·trans[z2,z] + unmet − surplus = Demand·EE
  -- (a difference here is cut off at 0; Loss is at most 1000, as refusal 3 has it)
  unfoldable pub balance : ℕ → ℕ → ℕ → Equation
  balance y z s = record {
    positive = in_zone z (λ g. 1000 · gen y g s) ⊕ others z (λ u. (1000 - loss D y u z) · trans y u z s) ⊕ 1 · unmet y z s;
    negative = in_zone z (λ g. 1000 · charge y g s) ⊕ others z (λ u. 1000 · trans y z u s) ⊕ 1 · surplus y z s;
    plus = 0;
    minus = demand D y z s * ee D y z;
  }

  -- 2 (15): trans ≤ TL + MW per line·total
  unfoldable pub transfer : ℕ → ℕ → ℕ → ℕ → Equation
  transfer y z w s = record {
    positive = mw_per_line D z w · total_lines y z w;
    negative = 1 · trans y z w s;
    plus = tl D y z w (season D s);
    minus = 0;
  }

  -- 3 (19): 1000·Σ reserve in z + spinshort + 1000·Σ (TL[z2,z] + MW per line[z2,z]·total[z2,z] − trans[z2,z]) ≥ 1000·SRes + Err·Σ gen of VRE in z
  unfoldable pub spinning : ℕ → ℕ → ℕ → Equation
  spinning y z s = record {
    positive = in_zone z (λ g. 1000 · reserve y g s) ⊕ 1 · spinshort y z s ⊕ others z (λ u. (1000 * mw_per_line D u z) · total_lines y u z);
    negative = others z (λ u. 1000 · trans y u z s) ⊕ in_zone z (λ g. when (is_vre D g) (err D · gen y g s));
    plus = 1000 * others_sum z (λ u. tl D y u z (season D s));
    minus = 1000 * s_res D y z;
  }

  -- 4 (21): Σ CapCredit·cap + firmshort + 1000·Σ of the lowest season limit of TL[z2,z] ≥ (1000 + PRM)·peak
  unfoldable pub firm : ℕ → ℕ → Equation
  firm y z = record {
    positive = in_zone z (λ g. cap_credit D g · cap y g) ⊕ 1 · firmshort y z;
    negative = nothing;
    plus = 1000 * others_sum z (λ u. lowest_limit D y u z);
    minus = (1000 + prm D z) * peak D y z;
  }

  -- 5 (22): 1000·(gen + reserve) ≤ (1000 + OverLoad)·cap
  unfoldable pub loading : ℕ → ℕ → ℕ → Equation
  loading y g s = record {
    positive = (1000 + over_load D g) · cap y g;
    negative = 1000 · gen y g s ⊕ 1000 · reserve y g s;
    plus = 0;
    minus = 0;
  }

  -- 6 (23): 1000·reserve ≤ ResOffer·cap
  unfoldable pub offer : ℕ → ℕ → ℕ → Equation
  offer y g s = record { positive = res_offer D g · cap y g; negative = 1000 · reserve y g s; plus = 0; minus = 0 }

  -- 7 (24), t > 0: 1000·(gen[s−1] − gen[s]) ≤ RampDn·cap
  unfoldable pub ramp_down : ℕ → ℕ → ℕ → Equation
  ramp_down y g s = ramp s (ramp_dn D g · cap y g) (gen y g (s - 1)) (gen y g s)

  -- 8 (25), t > 0: 1000·(gen[s] − gen[s−1]) ≤ RampUp·cap
  unfoldable pub ramp_upward : ℕ → ℕ → ℕ → Equation
  ramp_upward y g s = ramp s (ramp_up D g · cap y g) (gen y g s) (gen y g (s - 1))

  -- 9 (26), minimum-load days: 1000·gen ≥ MinCapFac·cap
  unfoldable pub minimum_load : ℕ → ℕ → ℕ → Equation
  minimum_load y g s = only (on_min_load_day D s) (record {
    positive = 1000 · gen y g s;
    negative = min_cap_fac D g · cap y g;
    plus = 0;
    minus = 0;
  })

  -- 10 (27): 1000·Σ Dur·gen ≤ Availability·(Σ Dur)·cap, over the season
  unfoldable pub available : ℕ → ℕ → ℕ → Equation
  available y g q = record {
    positive = (availability D g q * season_sum q (λ s. duration D s)) · cap y g;
    negative = in_season q (λ s. (1000 * duration D s) · gen y g s);
    plus = 0;
    minus = 0;
  }

  -- 11 (28), VRE: 1000·gen ≤ Profile·cap
  unfoldable pub profiled : ℕ → ℕ → ℕ → Equation
  profiled y g s = only (is_vre D g) (record { positive = profile D g s · cap y g; negative = 1000 · gen y g s; plus = 0; minus = 0 })

  -- 12 (34): existing, first year: cap = GenCap; later: cap = earlier cap − retire. Candidate: cap = earlier cap (0 in the first year) + build
  unfoldable pub stock : ℕ → ℕ → Equation
  stock y g = record {
    positive = 1 · cap y g ⊕ when (existing D g && ltb 0 y) (1 · retire y g);
    negative = earlier y (λ x. cap x g) ⊕ when (candidate D g) (1 · build y g);
    plus = 0;
    minus = on (existing D g && eqb y 0) (gen_cap D g);
  }

  -- 13 (37): cap ≤ 0 for an existing plant from its retirement year on, for a candidate before its commission year
  abbrev pub out_of_service : ℕ → ℕ → Bool
  out_of_service y g = (existing D g && leb (year D g) (y + 1)) || (candidate D g && ltb (y + 1) (year D g))

  unfoldable pub life : ℕ → ℕ → Equation
  life y g = only (out_of_service y g) (record { positive = nothing; negative = 1 · cap y g; plus = 0; minus = 0 })

  -- 14 (61): existing: in the first year build + retire ≤ 0, later build ≤ 0; candidate: retire ≤ 0
  unfoldable pub fixed : ℕ → ℕ → Equation
  fixed y g = record {
    positive = nothing;
    negative = when (existing D g) (1 · build y g) ⊕ when (candidate D g || eqb y 0) (1 · retire y g);
    plus = 0;
    minus = 0;
  }

  -- 15 (55), candidate: Σ build ≤ MaxNewCap
  unfoldable pub new_capacity : ℕ → Equation
  new_capacity g = only (candidate D g) (at_most (∑ (Y D) (λ y. 1 · build y g)) (max_new_cap D g))

  -- 16 (58), candidate: build ≤ BuildLimit·V
  unfoldable pub yearly_build : ℕ → ℕ → Equation
  yearly_build y g = only (candidate D g) (at_most (1 · build y g) (build_limit D y * weight D y))

  -- 17 (62): Σ Dur·HeatRate·gen of that zone and fuel ≤ 1000·MaxFuel
  unfoldable pub fuel_use : ℕ → ℕ → ℕ → Equation
  fuel_use y z f =
      at_most (in_zone z (λ g. when (eqb (fuel D g) f) (∑ (S D) (λ s. (duration D s * heat_rate D g) · gen y g s)))) (1000 * max_fuel D y f)

  -- 18 (64): Σ R·V·Annuity·cap of candidates ≤ 10⁹·MaxCapital
  unfoldable pub capital : Equation
  capital =
      at_most (∑ (Y D) (λ y. ∑ (G D) (λ g. when (candidate D g) ((rate D y * weight D y * annuity D y g) · cap y g)))) (10 ^ 9 * max_capital D)

  -- 19 (66): Σ Dur·E·gen in z ≤ 1000·zone cap
  unfoldable pub zone_emission : ℕ → ℕ → Equation
  zone_emission y z = at_most (in_zone z (λ g. ∑ (S D) (λ s. (duration D s * emission D g) · gen y g s))) (1000 * zone_cap D y z)

  -- 20 (68): Σ Dur·E·gen ≤ 1000·system cap
  unfoldable pub system_emission : ℕ → Equation
  system_emission y = at_most (∑ (G D) (λ g. ∑ (S D) (λ s. (duration D s * emission D g) · gen y g s))) (1000 * system_cap D y)

  -- 21 (42, 43), battery: level = level[s−1] (0 before a day's first slice) + Efficiency·charge − 1000·gen; a slice counts as one hour
  unfoldable pub battery_level : ℕ → ℕ → ℕ → Equation
  battery_level y g s = only (is_battery D g) (record {
    positive = 1 · level y g s ⊕ 1000 · gen y g s;
    negative = when (after_first_hour D s) (1 · level y g (s - 1)) ⊕ efficiency D g · charge y g s;
    plus = 0;
    minus = 0;
  })

  -- 22 (45): battery: charge ≤ cap; any other plant: charge ≤ 0
  unfoldable pub charge_limit : ℕ → ℕ → ℕ → Equation
  charge_limit y g s = record { positive = when (is_battery D g) (1 · cap y g); negative = 1 · charge y g s; plus = 0; minus = 0 }

  -- 23 (47), battery, t > 0: 1000·(charge[s] − charge[s−1]) ≤ RampDn·cap
  unfoldable pub charge_rise : ℕ → ℕ → ℕ → Equation
  charge_rise y g s = only (is_battery D g) (ramp s (ramp_dn D g · cap y g) (charge y g s) (charge y g (s - 1)))

  -- 24 (48), battery, t > 0: 1000·(charge[s−1] − charge[s]) ≤ RampUp·cap
  unfoldable pub charge_fall : ℕ → ℕ → ℕ → Equation
  charge_fall y g s = only (is_battery D g) (ramp s (ramp_up D g · cap y g) (charge y g (s - 1)) (charge y g s))

  -- 25 (46): battery: level ≤ energy capacity; any other plant: level ≤ 0
  unfoldable pub level_limit : ℕ → ℕ → ℕ → Equation
  level_limit y g s = at_most (1 · level y g s) (on (is_battery D g) (energy_capacity D g))

  -- 26: total = earlier total (0 in the first year) + built, within one zone too
  unfoldable pub line_balance : ℕ → ℕ → ℕ → Equation
  line_balance y z w = record {
    positive = 1 · total_lines y z w;
    negative = earlier y (λ x. total_lines x z w) ⊕ 1 · built_lines y z w;
    plus = 0;
    minus = 0;
  }

  -- 27: Σ built over the years ≤ line limit, within one zone too, where that is 0
  unfoldable pub new_lines : ℕ → ℕ → Equation
  new_lines z w = at_most (∑ (Y D) (λ y. 1 · built_lines y z w)) (line_limit D z w)

  -- 28, z below z2: total[z,z2] = total[z2,z]
  unfoldable pub lines_both_ways : ℕ → ℕ → ℕ → Equation
  lines_both_ways y z w = only (ltb z w) (record { positive = 1 · total_lines y z w; negative = 1 · total_lines y w z; plus = 0; minus = 0 })

  -- the row of each family at a year, a first and a second index and a slice
  abbrev pub equations : ℕ → ℕ → ℕ → ℕ → List Equation
  equations y i j s =
      balance y i s
      ∷ transfer y i j s
      ∷ spinning y i s
      ∷ firm y i
      ∷ loading y i s
      ∷ offer y i s
      ∷ ramp_down y i s
      ∷ ramp_upward y i s
      ∷ minimum_load y i s
      ∷ available y i s
      ∷ profiled y i s
      ∷ stock y i
      ∷ life y i
      ∷ fixed y i
      ∷ new_capacity i
      ∷ yearly_build y i
      ∷ fuel_use y i j
      ∷ capital
      ∷ zone_emission y i
      ∷ system_emission y
      ∷ battery_level y i s
      ∷ charge_limit y i s
      ∷ charge_rise y i s
      ∷ charge_fall y i s
      ∷ level_limit y i s
      ∷ line_balance y i j
      ∷ new_lines i j
      ∷ lines_both_ways y i j
      ∷ []

  -- opened with every family, so that a proof names one definition
  unfoldable pub equation : Index → Equation
  unfolding balance transfer spinning firm loading offer ramp_down ramp_upward minimum_load available profiled stock life fixed new_capacity yearly_build fuel_use capital zone_emission system_emission battery_level charge_limit charge_rise charge_fall level_limit line_balance new_lines lines_both_ways
  equation (index k y i j s) = get_or (equations y i j s) k empty
