-- The families once more, as documents 01 and 02 print them: each row's two sums over all columns, and its constant.
-- Beside Families.antt, which the tests run on, this page is what a reader ticks off against the document; proofs/Printed.antt shows that they agree.
use Rattle.std.specs.Prelude.{◌≡◌, Bool, true, false, not, ◌&&◌, ◌||◌, ℕ, ◌+◌, ◌*◌, ◌-◌, ◌^◌, ◌/◌, ◌%◌, ◌<◌, eqb, leb, ltb}
use Rattle.sums.specs.Sum.{sum, largest, least, on}
use Rattle.sums.specs.Span.{total}
use Rattle.sums.specs.Index.{Index}
use Rattle.sums.specs.Linear.{coefficient}
use Rattle.model.specs.Data.{Data, rate, weight, duration, min_load, zone, fuel, vre, gen_cap, year, max_new_cap, over_load, res_offer, ramp_dn, ramp_up, min_cap_fac, cap_credit, heat_rate, emission, availability, profile, annuity, demand, ee, s_res, prm, tl, loss, zone_cap, system_cap, max_fuel, build_limit, err, max_capital, Z, G, F, Q, Y, S, P, T, battery, efficiency, energy_capacity, line_limit, mw_per_line, existing, candidate, season, day}
use Rattle.model.specs.Columns.{columns, cap, build, retire, gen, reserve, trans, unmet, surplus, spinshort, firmshort, charge, level, built_lines, total_lines}
use Rattle.model.specs.Families.{row, equation, equal, family_in, family_of}

module _ (D : Data) (x : Index → ℕ) where
  -- Σ a·entry over all columns, of the positive and of the negative coefficients
  abbrev pub sum⁺ : Index → ℕ
  sum⁺ r = total (columns D) (λ c. coefficient (equation D r).positive c * x c)

  abbrev pub sum⁻ : Index → ℕ
  sum⁻ r = total (columns D) (λ c. coefficient (equation D r).negative c * x c)

  -- Σ over the plants of zone z, over the zones other than z
  abbrev pub plants_in : ℕ → (ℕ → ℕ) → ℕ
  plants_in z f = sum (G D) (λ g. on (eqb (zone D g) z) (f g))

  abbrev pub zones_but : ℕ → (ℕ → ℕ) → ℕ
  zones_but z f = sum (Z D) (λ u. on (not (eqb u z)) (f u))

  -- what a row reads: its equation number, whether it is an equality, positive terms, negative terms, constant before like terms are brought together (what it adds, what it takes off)
  pub record Reads (r : Index) (number : ℕ) (e : Bool) (p n k⁺ k⁻ : ℕ) : Type 0 where
    pub numbered : (family_of (family_in r)).equation ≡ number
    pub equality : equal r ≡ e
    pub positive : sum⁺ r ≡ p
    pub negative : sum⁻ r ≡ n
    pub adds : (equation D r).plus ≡ k⁺
    pub takes : (equation D r).minus ≡ k⁻

  pub record Printed : Type 0 where
    -- 1 (14): 1000·Σ gen in z − 1000·Σ charge in z − 1000·Σ trans[z,z2] + Σ (1000 − Loss[z2,z])·trans[z2,z] + unmet − surplus = Demand·EE
    pub family1 : (y z s : ℕ) → y < Y D → z < Z D → s < S D → Reads (row 1 y z 0 s) 14 true
        (plants_in z (λ g. 1000 * x (gen y g s)) + zones_but z (λ u. (1000 - loss D y u z) * x (trans y u z s)) + 1 * x (unmet y z s))
        (plants_in z (λ g. 1000 * x (charge y g s)) + zones_but z (λ u. 1000 * x (trans y z u s)) + 1 * x (surplus y z s))
        0 (demand D y z s * ee D y z)
    -- 2 (15): trans ≤ TL + MW per line·total
    pub family2 : (y z w s : ℕ) → y < Y D → z < Z D → w < Z D → s < S D → Reads (row 2 y z w s) 15 false
        (mw_per_line D z w * x (total_lines y z w)) (1 * x (trans y z w s)) (tl D y z w (s / P D)) 0
    -- 3 (19): 1000·Σ reserve in z + spinshort + 1000·Σ (TL[z2,z] + MW per line[z2,z]·total[z2,z] − trans[z2,z]) ≥ 1000·SRes + Err·Σ gen of VRE in z
    pub family3 : (y z s : ℕ) → y < Y D → z < Z D → s < S D → Reads (row 3 y z 0 s) 19 false
        (plants_in z (λ g. 1000 * x (reserve y g s)) + 1 * x (spinshort y z s) + zones_but z (λ u. 1000 * mw_per_line D u z * x (total_lines y u z)))
        (zones_but z (λ u. 1000 * x (trans y u z s)) + plants_in z (λ g. on (eqb (vre D g) 1) (err D * x (gen y g s))))
        (1000 * zones_but z (λ u. tl D y u z (s / P D))) (1000 * s_res D y z)
    -- 4 (21): Σ CapCredit·cap + firmshort + 1000·Σ of the lowest season limit of TL[z2,z] ≥ (1000 + PRM)·peak
    pub family4 : (y z : ℕ) → y < Y D → z < Z D → Reads (row 4 y z 0 0) 21 false
        (plants_in z (λ g. cap_credit D g * x (cap y g)) + 1 * x (firmshort y z)) 0
        (1000 * zones_but z (λ u. least (Q D) (λ q. tl D y u z q))) ((1000 + prm D z) * largest (S D) (λ s. demand D y z s))
    -- 5 (22): 1000·(gen + reserve) ≤ (1000 + OverLoad)·cap
    pub family5 : (y g s : ℕ) → y < Y D → g < G D → s < S D → Reads (row 5 y g 0 s) 22 false
        ((1000 + over_load D g) * x (cap y g)) (1000 * x (gen y g s) + 1000 * x (reserve y g s)) 0 0
    -- 6 (23): 1000·reserve ≤ ResOffer·cap
    pub family6 : (y g s : ℕ) → y < Y D → g < G D → s < S D → Reads (row 6 y g 0 s) 23 false
        (res_offer D g * x (cap y g)) (1000 * x (reserve y g s)) 0 0
    -- 7 (24), t > 0: 1000·(gen[s−1] − gen[s]) ≤ RampDn·cap
    pub family7 : (y g s : ℕ) → y < Y D → g < G D → s < S D → Reads (row 7 y g 0 s) 24 false
        (on (ltb 0 (s % T D)) (ramp_dn D g * x (cap y g) + 1000 * x (gen y g s))) (on (ltb 0 (s % T D)) (1000 * x (gen y g (s - 1)))) 0 0
    -- 8 (25): the same upward with RampUp
    pub family8 : (y g s : ℕ) → y < Y D → g < G D → s < S D → Reads (row 8 y g 0 s) 25 false
        (on (ltb 0 (s % T D)) (ramp_up D g * x (cap y g) + 1000 * x (gen y g (s - 1)))) (on (ltb 0 (s % T D)) (1000 * x (gen y g s))) 0 0
    -- 9 (26), on minimum-load days: 1000·gen ≥ MinCapFac·cap
    pub family9 : (y g s : ℕ) → y < Y D → g < G D → s < S D → Reads (row 9 y g 0 s) 26 false
        (on (eqb (min_load D (season D s) (day D s)) 1) (1000 * x (gen y g s))) (on (eqb (min_load D (season D s) (day D s)) 1) (min_cap_fac D g * x (cap y g))) 0 0
    -- 10 (27): 1000·Σ Dur·gen ≤ Availability·(Σ Dur)·cap, over the season
    pub family10 : (y g q : ℕ) → y < Y D → g < G D → q < Q D → Reads (row 10 y g 0 q) 27 false
        (availability D g q * sum (P D) (λ i. duration D (q * P D + i)) * x (cap y g))
        (sum (P D) (λ i. 1000 * duration D (q * P D + i) * x (gen y g (q * P D + i)))) 0 0
    -- 11 (28), VRE: 1000·gen ≤ Profile·cap
    pub family11 : (y g s : ℕ) → y < Y D → g < G D → s < S D → Reads (row 11 y g 0 s) 28 false
        (on (eqb (vre D g) 1) (profile D g s * x (cap y g))) (on (eqb (vre D g) 1) (1000 * x (gen y g s))) 0 0
    -- 12 (34): existing, first year: cap = GenCap; later: cap = earlier cap − retire. Candidate: cap = earlier cap (0 in the first year) + build
    pub family12 : (y g : ℕ) → y < Y D → g < G D → Reads (row 12 y g 0 0) 34 true
        (1 * x (cap y g) + on (existing D g && ltb 0 y) (1 * x (retire y g)))
        (on (ltb 0 y) (1 * x (cap (y - 1) g)) + on (candidate D g) (1 * x (build y g)))
        0 (on (existing D g && eqb y 0) (gen_cap D g))
    -- 13 (37): cap ≤ 0 for an existing plant from its retirement year on, for a candidate before its commission year
    pub family13 : (y g : ℕ) → y < Y D → g < G D → Reads (row 13 y g 0 0) 37 false
        0 (on ((existing D g && leb (year D g) (y + 1)) || (candidate D g && ltb (y + 1) (year D g))) (1 * x (cap y g))) 0 0
    -- 14 (61): existing: in the first year build + retire ≤ 0, later build ≤ 0; candidate: retire ≤ 0
    pub family14 : (y g : ℕ) → y < Y D → g < G D → Reads (row 14 y g 0 0) 61 false
        0 (on (existing D g) (1 * x (build y g)) + on (candidate D g || eqb y 0) (1 * x (retire y g))) 0 0
    -- 15 (55), candidate: Σ build ≤ MaxNewCap
    pub family15 : (g : ℕ) → g < G D → Reads (row 15 0 g 0 0) 55 false
        0 (on (candidate D g) (sum (Y D) (λ y. 1 * x (build y g)))) (on (candidate D g) (max_new_cap D g)) 0
    -- 16 (58), candidate: build ≤ BuildLimit·V
    pub family16 : (y g : ℕ) → y < Y D → g < G D → Reads (row 16 y g 0 0) 58 false
        0 (on (candidate D g) (1 * x (build y g))) (on (candidate D g) (build_limit D y * weight D y)) 0
    -- 17 (62): Σ Dur·HeatRate·gen of that zone and fuel ≤ 1000·MaxFuel
    pub family17 : (y z f : ℕ) → y < Y D → z < Z D → f < F D → Reads (row 17 y z f 0) 62 false
        0 (plants_in z (λ g. on (eqb (fuel D g) f) (sum (S D) (λ s. duration D s * heat_rate D g * x (gen y g s))))) (1000 * max_fuel D y f) 0
    -- 18 (64): Σ R·V·Annuity·cap of candidates ≤ 10⁹·MaxCapital
    pub family18 : Reads (row 18 0 0 0 0) 64 false
        0 (sum (Y D) (λ y. sum (G D) (λ g. on (candidate D g) (rate D y * weight D y * annuity D y g * x (cap y g))))) (10 ^ 9 * max_capital D) 0
    -- 19 (66): Σ Dur·E·gen in z ≤ 1000·zone cap
    pub family19 : (y z : ℕ) → y < Y D → z < Z D → Reads (row 19 y z 0 0) 66 false
        0 (plants_in z (λ g. sum (S D) (λ s. duration D s * emission D g * x (gen y g s)))) (1000 * zone_cap D y z) 0
    -- 20 (68): Σ Dur·E·gen ≤ 1000·system cap
    pub family20 : (y : ℕ) → y < Y D → Reads (row 20 y 0 0 0) 68 false
        0 (sum (G D) (λ g. sum (S D) (λ s. duration D s * emission D g * x (gen y g s)))) (1000 * system_cap D y) 0
    -- 21 (42, 43), battery: level = level[s−1] (0 before a day's first slice) + Efficiency·charge − 1000·gen
    pub family21 : (y g s : ℕ) → y < Y D → g < G D → s < S D → Reads (row 21 y g 0 s) 43 true
        (on (eqb (battery D g) 1) (1 * x (level y g s) + 1000 * x (gen y g s)))
        (on (eqb (battery D g) 1) (on (ltb 0 (s % T D)) (1 * x (level y g (s - 1))) + efficiency D g * x (charge y g s))) 0 0
    -- 22 (45): battery: charge ≤ cap; any other plant: charge ≤ 0
    pub family22 : (y g s : ℕ) → y < Y D → g < G D → s < S D → Reads (row 22 y g 0 s) 45 false
        (on (eqb (battery D g) 1) (1 * x (cap y g))) (1 * x (charge y g s)) 0 0
    -- 23 (47), battery, t > 0: 1000·(charge[s] − charge[s−1]) ≤ RampDn·cap
    pub family23 : (y g s : ℕ) → y < Y D → g < G D → s < S D → Reads (row 23 y g 0 s) 47 false
        (on (eqb (battery D g) 1) (on (ltb 0 (s % T D)) (ramp_dn D g * x (cap y g) + 1000 * x (charge y g (s - 1)))))
        (on (eqb (battery D g) 1) (on (ltb 0 (s % T D)) (1000 * x (charge y g s)))) 0 0
    -- 24 (48), battery, t > 0: 1000·(charge[s−1] − charge[s]) ≤ RampUp·cap
    pub family24 : (y g s : ℕ) → y < Y D → g < G D → s < S D → Reads (row 24 y g 0 s) 48 false
        (on (eqb (battery D g) 1) (on (ltb 0 (s % T D)) (ramp_up D g * x (cap y g) + 1000 * x (charge y g s))))
        (on (eqb (battery D g) 1) (on (ltb 0 (s % T D)) (1000 * x (charge y g (s - 1))))) 0 0
    -- 25 (46): battery: level ≤ energy capacity; any other plant: level ≤ 0
    pub family25 : (y g s : ℕ) → y < Y D → g < G D → s < S D → Reads (row 25 y g 0 s) 46 false
        0 (1 * x (level y g s)) (on (eqb (battery D g) 1) (energy_capacity D g)) 0
    -- 26, no number: total = earlier total (0 in the first year) + built, within one zone too
    pub family26 : (y z w : ℕ) → y < Y D → z < Z D → w < Z D → Reads (row 26 y z w 0) 0 true
        (1 * x (total_lines y z w)) (on (ltb 0 y) (1 * x (total_lines (y - 1) z w)) + 1 * x (built_lines y z w)) 0 0
    -- 27, no number: Σ built over the years ≤ line limit, within one zone too
    pub family27 : (z w : ℕ) → z < Z D → w < Z D → Reads (row 27 0 z w 0) 0 false
        0 (sum (Y D) (λ y. 1 * x (built_lines y z w))) (line_limit D z w) 0
    -- 28, no number, z below z2: total[z,z2] = total[z2,z]
    pub family28 : (y z w : ℕ) → y < Y D → z < Z D → w < Z D → Reads (row 28 y z w 0) 0 true
        (on (ltb z w) (1 * x (total_lines y z w))) (on (ltb z w) (1 * x (total_lines y w z))) 0 0
