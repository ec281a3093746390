-- The indices of a row, a column or an entry in words, each counted from 1.
use Rattle.std.specs.Prelude.{List, [], ◌∷◌, ◌++◌, ℕ, ◌+◌, ◌≤◌, get_or, flat_map}
use Prim.Native.String.{String}
use Rattle.sums.specs.Index.{Index, index}
use Rattle.model.specs.declared.Counts.{Counts}
use Rattle.texts.specs.Claims.{bytes}
use Rattle.writer.specs.Decimal.{decimal}
use Rattle.sums.specs.declared.Place.{Place}
use Rattle.places.specs.Numbers.{slice_at}
use Rattle.index_words.specs.declared.Meaning.{Meaning}
use Rattle.index_words.specs.declared.Meaning.TheVariants.{Year, Zone, SecondZone, Plant, Fuel, Slice, Season, LoadSeason, LoadDay}

-- The index sets by code, each as what its indices stand for: a second zone, a season that stands in the slice's place, and the season and the day
-- of a minimum-load day have words of their own.
abbrev pub set_meanings : List (List Meaning)
set_meanings =
    (Year ∷ Zone ∷ Slice ∷ [])
    ∷ (Year ∷ Zone ∷ SecondZone ∷ Slice ∷ [])
    ∷ (Year ∷ Zone ∷ [])
    ∷ (Year ∷ Plant ∷ Slice ∷ [])
    ∷ (Year ∷ Plant ∷ Season ∷ [])
    ∷ (Year ∷ Plant ∷ [])
    ∷ (Plant ∷ [])
    ∷ (Year ∷ Zone ∷ Fuel ∷ [])
    ∷ []
    ∷ (Year ∷ [])
    ∷ (Slice ∷ [])
    ∷ (LoadSeason ∷ LoadDay ∷ [])
    ∷ (Plant ∷ Season ∷ [])
    ∷ (Plant ∷ Slice ∷ [])
    ∷ (Zone ∷ [])
    ∷ (Year ∷ Zone ∷ SecondZone ∷ Season ∷ [])
    ∷ (Year ∷ Zone ∷ SecondZone ∷ [])
    ∷ (Year ∷ Fuel ∷ [])
    ∷ (Zone ∷ SecondZone ∷ [])
    ∷ []

-- words, and a number counted from 0 as one counted from 1
abbrev pub counted : String → ℕ → List ℕ
counted words i = bytes words ++ decimal (i + 1)

unfoldable pub slice_words : Counts → ℕ → List ℕ
slice_words c s =
    counted ", season " (slice_at c s).season ++ (counted ", day " (slice_at c s).day ++ counted ", hour " (slice_at c s).hour)

module _ (c : Counts) where
  -- an index, by what it stands for
  unfoldable pub index_words : Index → Meaning → List ℕ
  index_words (index k y i j s) Year = counted ", year " y
  index_words (index k y i j s) Zone = counted ", zone " i
  index_words (index k y i j s) SecondZone = counted ", to zone " j
  index_words (index k y i j s) Plant = counted ", plant " i
  index_words (index k y i j s) Fuel = counted ", fuel " j
  index_words (index k y i j s) Slice = slice_words c s
  index_words (index k y i j s) Season = counted ", season " s
  index_words (index k y i j s) LoadSeason = counted ", season " i
  index_words (index k y i j s) LoadDay = counted ", day " j

  -- several indices, one behind another
  unfoldable pub indices_words : Index → List Meaning → List ℕ
  indices_words r meanings = flat_map (index_words r) meanings

  -- the indices of a member of the index set of a code
  unfoldable pub place_words : ℕ → Index → List ℕ
  place_words set r = indices_words r (get_or set_meanings set [])

-- indices to which 1 can be added in a machine word
pub record Low (p : Place) : Type 0 where
  pub low_year : p.year ≤ 1000
  pub low_first : p.first ≤ 1000
  pub low_second : p.second ≤ 1000
  pub low_slice : p.slice ≤ 1000
