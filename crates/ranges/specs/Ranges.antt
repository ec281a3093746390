-- The range of each entry as the code has it.
use Rattle.std.specs.Prelude.{List, [], ◌∷◌, ℕ, get_or}
use Rattle.model.specs.Data as spec
use Rattle.model.specs.Data.{Data, tables, all, ◌to◌, most32}
use Rattle.ranges.specs.declared.Range.{Range}

abbrev pub ranged : Range → spec.Range
ranged r = r.least to r.most

-- the range of table t's entry
abbrev pub range_of : ℕ → Data → ℕ → ℕ → ℕ → ℕ → spec.Range
range_of t D y i j s = (get_or tables t (all 0 (0 to 0))).range D y i j s

abbrev pub from : ℕ → ℕ → Range
from a b = record { least = a; most = b }

abbrev pub any_number : Range
any_number = from 0 most32

abbrev pub per_mille : Range
per_mille = from 0 1000

abbrev pub flag : Range
flag = from 0 1

-- in place of a range that depends on the indices
abbrev pub by_index : Range
by_index = from 0 0

-- the range of each table whose entries have one range
abbrev pub fixed : List Range
fixed =
    per_mille  -- 0 return rate
    ∷ from 1 20  -- 1 weight
    ∷ from 0 8784  -- 2 duration
    ∷ flag  -- 3 minimum-load day
    ∷ by_index  -- 4 zone
    ∷ by_index  -- 5 fuel
    ∷ flag  -- 6 kind
    ∷ flag  -- 7 VRE
    ∷ by_index  -- 8 GenCap
    ∷ by_index  -- 9 year
    ∷ by_index  -- 10 MaxNewCap
    ∷ per_mille  -- 11 OverLoad
    ∷ per_mille  -- 12 ResOffer
    ∷ per_mille  -- 13 RampDn
    ∷ per_mille  -- 14 RampUp
    ∷ per_mille  -- 15 MinCapFac
    ∷ per_mille  -- 16 CapCredit
    ∷ from 0 100000  -- 17 HeatRate
    ∷ from 0 10000  -- 18 emission
    ∷ any_number  -- 19 ResCost
    ∷ per_mille  -- 20 Availability
    ∷ per_mille  -- 21 Profile
    ∷ any_number  -- 22 Annuity
    ∷ any_number  -- 23 FixedOM
    ∷ any_number  -- 24 GenCost
    ∷ any_number  -- 25 Demand
    ∷ from 0 5000  -- 26 EE
    ∷ any_number  -- 27 SRes
    ∷ per_mille  -- 28 PRM
    ∷ by_index  -- 29 TL
    ∷ per_mille  -- 30 Loss
    ∷ any_number  -- 31 zone cap
    ∷ any_number  -- 32 system cap
    ∷ from 0 100000  -- 33 Tax
    ∷ any_number  -- 34 MaxFuel
    ∷ any_number  -- 35 BuildLimit
    ∷ any_number  -- 36 VOLL
    ∷ any_number  -- 37 SurplusPenalty
    ∷ any_number  -- 38 RESVoLL
    ∷ any_number  -- 39 SRESVoLL
    ∷ per_mille  -- 40 Err
    ∷ any_number  -- 41 MaxCapital
    ∷ flag  -- 42 battery
    ∷ per_mille  -- 43 efficiency
    ∷ any_number  -- 44 energy capacity
    ∷ by_index  -- 45 line limit
    ∷ by_index  -- 46 MW per line
    ∷ by_index  -- 47 line annuity
    ∷ []
