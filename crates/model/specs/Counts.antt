-- The seven counts, and the index sets that tables, columns and rows run over.
use Rattle.std.specs.Prelude.{List, [], ◌∷◌, ℕ, ◌*◌}
use Rattle.sums.specs.declared.Box.{Box}
use Rattle.sums.specs.Index.{box}
pub use Rattle.model.specs.declared.Counts.{Counts}

-- S = Q·D·T, the slices of a year
abbrev pub slices_of : Counts → ℕ
slices_of c = c.seasons * c.days * c.hours

-- D·T, the slices of a season
abbrev pub season_length : Counts → ℕ
season_length c = c.days * c.hours

-- The index sets by code: how many years, first indices, second indices and slices each has.
-- A plant or a zone is a first index; a second zone or a fuel is a second index; a season stands in the slice's place.
-- The minimum-load days alone have the season first and the day second.
abbrev pub sets : Counts → List Box
sets c =
    box c.years c.zones 1 (slices_of c)  -- 0: y, z, s
    ∷ box c.years c.zones c.zones (slices_of c)  -- 1: y, z, z2, s
    ∷ box c.years c.zones 1 1  -- 2: y, z
    ∷ box c.years c.plants 1 (slices_of c)  -- 3: y, g, s
    ∷ box c.years c.plants 1 c.seasons  -- 4: y, g, q
    ∷ box c.years c.plants 1 1  -- 5: y, g
    ∷ box 1 c.plants 1 1  -- 6: g
    ∷ box c.years c.zones c.fuels 1  -- 7: y, z, f
    ∷ box 1 1 1 1  -- 8: one member
    ∷ box c.years 1 1 1  -- 9: y
    ∷ box 1 1 1 (slices_of c)  -- 10: s
    ∷ box 1 c.seasons c.days 1  -- 11: q, d
    ∷ box 1 c.plants 1 c.seasons  -- 12: g, q
    ∷ box 1 c.plants 1 (slices_of c)  -- 13: g, s
    ∷ box 1 c.zones 1 1  -- 14: z
    ∷ box c.years c.zones c.zones c.seasons  -- 15: y, z, z2, q
    ∷ box c.years c.zones c.zones 1  -- 16: y, z, z2
    ∷ box c.years 1 c.fuels 1  -- 17: y, f
    ∷ box 1 c.zones c.zones 1  -- 18: z, z2
    ∷ []

-- their codes by name
abbrev pub [yzs] : ℕ
[yzs] = 0

abbrev pub [yzzs] : ℕ
[yzzs] = 1

abbrev pub [yz] : ℕ
[yz] = 2

abbrev pub [ygs] : ℕ
[ygs] = 3

abbrev pub [ygq] : ℕ
[ygq] = 4

abbrev pub [yg] : ℕ
[yg] = 5

abbrev pub [g] : ℕ
[g] = 6

abbrev pub [yzf] : ℕ
[yzf] = 7

abbrev pub [one] : ℕ
[one] = 8

abbrev pub [y] : ℕ
[y] = 9

abbrev pub [s] : ℕ
[s] = 10

abbrev pub [qd] : ℕ
[qd] = 11

abbrev pub [gq] : ℕ
[gq] = 12

abbrev pub [gs] : ℕ
[gs] = 13

abbrev pub [z] : ℕ
[z] = 14

abbrev pub [yzzq] : ℕ
[yzzq] = 15

abbrev pub [yzz] : ℕ
[yzz] = 16

abbrev pub [yf] : ℕ
[yf] = 17

abbrev pub [zz] : ℕ
[zz] = 18
