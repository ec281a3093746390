-- The data list of documents 01 and 02: its tables in order, the range of every entry, and each table by its name.
use Rattle.std.specs.Prelude.{Bool, true, false, not, ◌&&◌, List, [], ◌∷◌, map, ℕ, ◌+◌, ◌*◌, ◌-◌, ◌/◌, ◌%◌, eqb, leb, ltb, length, get_or}
use Rattle.sums.specs.Sum.{sum, largest, least}
use Rattle.sums.specs.declared.Box.{Box}
use Rattle.sums.specs.Index.{Index, index, box_of, count, number}
use Rattle.model.specs.Counts.{Counts, sets, slices_of, season_length, [yzs], [yz], [yg], [g], [one], [y], [s], [qd], [gq], [gs], [z], [yzzq], [yzz], [yf], [zz]}

-- the counts and, for a table's number and four indices, the entry there
pub record Data : Type 0 where
  pub counts : Counts
  pub entry : ℕ → ℕ → ℕ → ℕ → ℕ → ℕ

-- what an entry may be, both ends included
pub record Range : Type 0 where
  pub least : ℕ
  pub most : ℕ

abbrev pub ◌to◌ : ℕ → ℕ → Range
a to b = record { least = a; most = b }

infix 40 ◌to◌
abbrev pub within : Range → ℕ → Bool
within r v = leb r.least v && leb v r.most

-- all 32 bits
abbrev pub most32 : ℕ
most32 = 0xffff_ffff

-- one range or the other, by a test
abbrev pub either : Bool → Range → Range → Range
either true a b = a
either false a b = b

-- the counts as document 01 writes them, S slices a year and P slices a season, then the tables by name
module _ (D : Data) where
  abbrev pub Z : ℕ
  Z = D.counts.zones

  abbrev pub G : ℕ
  G = D.counts.plants

  abbrev pub F : ℕ
  F = D.counts.fuels

  abbrev pub Q : ℕ
  Q = D.counts.seasons

  abbrev pub T : ℕ
  T = D.counts.hours

  abbrev pub Y : ℕ
  Y = D.counts.years

  abbrev pub S : ℕ
  S = slices_of D.counts

  abbrev pub P : ℕ
  P = season_length D.counts

  abbrev pub rate : ℕ → ℕ  -- R[y], the return rate
  rate y = D.entry 0 y 0 0 0

  abbrev pub weight : ℕ → ℕ  -- V[y]
  weight y = D.entry 1 y 0 0 0

  abbrev pub duration : ℕ → ℕ  -- Dur[s]
  duration s = D.entry 2 0 0 0 s

  abbrev pub min_load : ℕ → ℕ → ℕ  -- minimum-load day [q,d]
  min_load q d = D.entry 3 0 q d 0

  abbrev pub zone : ℕ → ℕ
  zone g = D.entry 4 0 g 0 0

  abbrev pub fuel : ℕ → ℕ
  fuel g = D.entry 5 0 g 0 0

  abbrev pub kind : ℕ → ℕ  -- 0 existing, 1 candidate
  kind g = D.entry 6 0 g 0 0

  abbrev pub vre : ℕ → ℕ  -- 1 wind or sun
  vre g = D.entry 7 0 g 0 0

  abbrev pub gen_cap : ℕ → ℕ
  gen_cap g = D.entry 8 0 g 0 0

  abbrev pub year : ℕ → ℕ  -- existing: retirement; candidate: commission; years counted from 1
  year g = D.entry 9 0 g 0 0

  abbrev pub max_new_cap : ℕ → ℕ
  max_new_cap g = D.entry 10 0 g 0 0

  abbrev pub over_load : ℕ → ℕ
  over_load g = D.entry 11 0 g 0 0

  abbrev pub res_offer : ℕ → ℕ
  res_offer g = D.entry 12 0 g 0 0

  abbrev pub ramp_dn : ℕ → ℕ
  ramp_dn g = D.entry 13 0 g 0 0

  abbrev pub ramp_up : ℕ → ℕ
  ramp_up g = D.entry 14 0 g 0 0

  abbrev pub min_cap_fac : ℕ → ℕ
  min_cap_fac g = D.entry 15 0 g 0 0

  abbrev pub cap_credit : ℕ → ℕ
  cap_credit g = D.entry 16 0 g 0 0

  abbrev pub heat_rate : ℕ → ℕ
  heat_rate g = D.entry 17 0 g 0 0

  abbrev pub emission : ℕ → ℕ  -- E
  emission g = D.entry 18 0 g 0 0

  abbrev pub res_cost : ℕ → ℕ
  res_cost g = D.entry 19 0 g 0 0

  abbrev pub availability : ℕ → ℕ → ℕ
  availability g q = D.entry 20 0 g 0 q

  abbrev pub profile : ℕ → ℕ → ℕ
  profile g s = D.entry 21 0 g 0 s

  abbrev pub annuity : ℕ → ℕ → ℕ
  annuity y g = D.entry 22 y g 0 0

  abbrev pub fixed_om : ℕ → ℕ → ℕ
  fixed_om y g = D.entry 23 y g 0 0

  abbrev pub gen_cost : ℕ → ℕ → ℕ
  gen_cost y g = D.entry 24 y g 0 0

  abbrev pub demand : ℕ → ℕ → ℕ → ℕ
  demand y z s = D.entry 25 y z 0 s

  abbrev pub ee : ℕ → ℕ → ℕ
  ee y z = D.entry 26 y z 0 0

  abbrev pub s_res : ℕ → ℕ → ℕ
  s_res y z = D.entry 27 y z 0 0

  abbrev pub prm : ℕ → ℕ
  prm z = D.entry 28 0 z 0 0

  abbrev pub tl : ℕ → ℕ → ℕ → ℕ → ℕ  -- TL[y,z,z2,q] from z to z2
  tl y z w q = D.entry 29 y z w q

  abbrev pub loss : ℕ → ℕ → ℕ → ℕ  -- Loss[y,z,z2] from z to z2
  loss y z w = D.entry 30 y z w 0

  abbrev pub zone_cap : ℕ → ℕ → ℕ
  zone_cap y z = D.entry 31 y z 0 0

  abbrev pub system_cap : ℕ → ℕ
  system_cap y = D.entry 32 y 0 0 0

  abbrev pub tax : ℕ → ℕ
  tax y = D.entry 33 y 0 0 0

  abbrev pub max_fuel : ℕ → ℕ → ℕ
  max_fuel y f = D.entry 34 y 0 f 0

  abbrev pub build_limit : ℕ → ℕ
  build_limit y = D.entry 35 y 0 0 0

  abbrev pub voll : ℕ
  voll = D.entry 36 0 0 0 0

  abbrev pub surplus_penalty : ℕ
  surplus_penalty = D.entry 37 0 0 0 0

  abbrev pub res_voll : ℕ
  res_voll = D.entry 38 0 0 0 0

  abbrev pub sres_voll : ℕ
  sres_voll = D.entry 39 0 0 0 0

  abbrev pub err : ℕ
  err = D.entry 40 0 0 0 0

  abbrev pub max_capital : ℕ
  max_capital = D.entry 41 0 0 0 0

  abbrev pub battery : ℕ → ℕ  -- 1 battery
  battery g = D.entry 42 0 g 0 0

  abbrev pub efficiency : ℕ → ℕ  -- of charging
  efficiency g = D.entry 43 0 g 0 0

  abbrev pub energy_capacity : ℕ → ℕ
  energy_capacity g = D.entry 44 0 g 0 0

  abbrev pub line_limit : ℕ → ℕ → ℕ  -- [z,z2] from z to z2, as the two below
  line_limit z w = D.entry 45 0 z w 0

  abbrev pub mw_per_line : ℕ → ℕ → ℕ
  mw_per_line z w = D.entry 46 0 z w 0

  abbrev pub line_annuity : ℕ → ℕ → ℕ
  line_annuity z w = D.entry 47 0 z w 0

  -- what follows from them
  abbrev pub existing : ℕ → Bool
  existing g = eqb (kind g) 0

  abbrev pub candidate : ℕ → Bool
  candidate g = not (existing g)

  abbrev pub season : ℕ → ℕ  -- q of s = (q·D + d)·T + t
  season s = s / P

  abbrev pub day : ℕ → ℕ  -- d of s
  day s = s / T % D.counts.days

  abbrev pub hour : ℕ → ℕ  -- t of s
  hour s = s % T

  abbrev pub is_vre : ℕ → Bool
  is_vre g = eqb (vre g) 1

  abbrev pub is_battery : ℕ → Bool
  is_battery g = eqb (battery g) 1

  abbrev pub after_first_hour : ℕ → Bool  -- t > 0
  after_first_hour s = ltb 0 (hour s)

  abbrev pub on_min_load_day : ℕ → Bool
  on_min_load_day s = eqb (min_load (season s) (day s)) 1

  abbrev pub peak : ℕ → ℕ → ℕ  -- the largest Demand[y,z,·]
  peak y z = largest S (λ s. demand y z s)

  abbrev pub lowest_limit : ℕ → ℕ → ℕ → ℕ  -- the least TL[y,z,z2,·]
  lowest_limit y z w = least Q (λ q. tl y z w q)

-- a table: the code of its index set, and the range of its entry at four indices
pub record Table : Type 0 where
  pub set : ℕ
  pub range : Data → ℕ → ℕ → ℕ → ℕ → Range

-- one range for all entries of a table
abbrev pub all : ℕ → Range → Table
all k r = record { set = k; range = λ D y i j s. r }

-- an entry of a pair of zones, 0 within one zone
abbrev pub between_zones : ℕ → Table
between_zones k = record { set = k; range = λ D y z w s. either (eqb z w) (0 to 0) (0 to most32) }

-- a range by plant
abbrev pub by_plant : (Data → ℕ → Range) → Table
by_plant f = record { set = [g]; range = λ D y g j s. f D g }

-- the tables in order
abbrev pub tables : List Table
tables =
    all [y] (0 to 1000)  -- 0 return rate R, ‰
    ∷ all [y] (1 to 20)  -- 1 weight V
    ∷ all [s] (0 to 8784)  -- 2 duration Dur, hours
    ∷ all [qd] (0 to 1)  -- 3 minimum-load day
    ∷ by_plant (λ D g. 0 to Z D - 1)  -- 4 zone, below Z
    ∷ by_plant (λ D g. 0 to F D - 1)  -- 5 fuel, below F
    ∷ all [g] (0 to 1)  -- 6 kind
    ∷ all [g] (0 to 1)  -- 7 VRE
    ∷ by_plant (λ D g. either (existing D g) (0 to most32) (0 to 0))  -- 8 GenCap, 0 for a candidate
    ∷ by_plant (λ D g. either (existing D g) (2 to Y D + 1) (1 to Y D))  -- 9 year, by kind
    ∷ by_plant (λ D g. either (existing D g) (0 to 0) (0 to most32))  -- 10 MaxNewCap, 0 for an existing plant
    ∷ all [g] (0 to 1000)  -- 11 OverLoad, ‰
    ∷ all [g] (0 to 1000)  -- 12 ResOffer, ‰
    ∷ all [g] (0 to 1000)  -- 13 RampDn, ‰
    ∷ all [g] (0 to 1000)  -- 14 RampUp, ‰
    ∷ all [g] (0 to 1000)  -- 15 MinCapFac, ‰
    ∷ all [g] (0 to 1000)  -- 16 CapCredit, ‰
    ∷ all [g] (0 to 100000)  -- 17 HeatRate, thousandths of an MMBTU per MWh
    ∷ all [g] (0 to 10000)  -- 18 emission E, kg per MWh
    ∷ all [g] (0 to most32)  -- 19 ResCost, mills per MWh
    ∷ all [gq] (0 to 1000)  -- 20 Availability, ‰
    ∷ all [gs] (0 to 1000)  -- 21 Profile, ‰
    ∷ all [yg] (0 to most32)  -- 22 Annuity, mills per MW
    ∷ all [yg] (0 to most32)  -- 23 FixedOM, mills per MW
    ∷ all [yg] (0 to most32)  -- 24 GenCost, mills per MWh
    ∷ all [yzs] (0 to most32)  -- 25 Demand, MW
    ∷ all [yz] (0 to 5000)  -- 26 EE, ‰
    ∷ all [yz] (0 to most32)  -- 27 SRes, MW
    ∷ all [z] (0 to 1000)  -- 28 PRM, ‰
    ∷ between_zones [yzzq]  -- 29 TL, MW, 0 where z = z2
    ∷ all [yzz] (0 to 1000)  -- 30 Loss, ‰
    ∷ all [yz] (0 to most32)  -- 31 zone cap, tons
    ∷ all [y] (0 to most32)  -- 32 system cap, tons
    ∷ all [y] (0 to 100000)  -- 33 Tax, money units per ton
    ∷ all [yf] (0 to most32)  -- 34 MaxFuel, MMBTU
    ∷ all [y] (0 to most32)  -- 35 BuildLimit, MW
    ∷ all [one] (0 to most32)  -- 36 VOLL, mills per kWh
    ∷ all [one] (0 to most32)  -- 37 SurplusPenalty, mills per kWh
    ∷ all [one] (0 to most32)  -- 38 RESVoLL, mills per kW
    ∷ all [one] (0 to most32)  -- 39 SRESVoLL, mills per kWh
    ∷ all [one] (0 to 1000)  -- 40 Err, ‰
    ∷ all [one] (0 to most32)  -- 41 MaxCapital, thousands of money units
    ∷ all [g] (0 to 1)  -- 42 battery
    ∷ all [g] (0 to 1000)  -- 43 efficiency, ‰
    ∷ all [g] (0 to most32)  -- 44 energy capacity, kWh
    ∷ between_zones [zz]  -- 45 line limit, lines, 0 where z = z2
    ∷ between_zones [zz]  -- 46 MW per line, 0 where z = z2
    ∷ between_zones [zz]  -- 47 line annuity, mills per line, 0 where z = z2
    ∷ []

-- how many tables there are
abbrev pub table_count : ℕ
table_count = 48

unfoldable pub table_boxes : Counts → List Box
table_boxes c = map (λ t. box_of (sets c) t.set) tables

-- the first seven numbers, and the largest that each may be; the least is 1
abbrev pub counts_of : List ℕ → Counts
counts_of l = record {
  zones = get_or l 0 0;
  plants = get_or l 1 0;
  fuels = get_or l 2 0;
  seasons = get_or l 3 0;
  days = get_or l 4 0;
  hours = get_or l 5 0;
  years = get_or l 6 0;
}

abbrev pub most_counts : List ℕ
most_counts = 8 ∷ 32 ∷ 8 ∷ 4 ∷ 4 ∷ 24 ∷ 10 ∷ []

-- the place of an entry in the list, and the length that the counts give
unfoldable pub place_of : Counts → Index → ℕ
place_of c i = length most_counts + number (table_boxes c) i

unfoldable pub data_length : Counts → ℕ
data_length c = length most_counts + count (table_boxes c)

-- a list of numbers read as data
unfoldable pub read : List ℕ → Data
read l = record { counts = counts_of l; entry = λ t y i j s. get_or l (place_of (counts_of l) (index t y i j s)) 0 }
