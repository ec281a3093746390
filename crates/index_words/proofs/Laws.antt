-- Indices that are low. Assumes nothing.
use mathlib.Core.Path.{◌≡◌, ap}
use mathlib.Core.List.{List, ◌++◌, append-nil}
use Prim.Native.Nat.{ℕ, ◌+◌, ◌/◌, ◌≤◌, ◌<◌}
use native.Mathlib.Nat.{div-le_self, mod-le}
use native.Mathlib.Numerals.{add-one}
use native.Mathlib.Omega.{arith}
use lib.ListN.{length, get_or, take}
use lib.Seq.{take-suc}
use Rattle.std.proofs.lemmas.Grind.{flat_map-append}
use Rattle.sums.specs.Index.{Index}
use Rattle.model.specs.declared.Counts.{Counts}
use Rattle.tables.specs.Layout.{Counted, Inside}
use Rattle.tables.proofs.Laws.{small-set}
use Rattle.sums.specs.declared.Place.{Place}
use Rattle.places.specs.declared.Slice.{Slice}
use Rattle.places.specs.Numbers.{slice_at}
use Rattle.writer.proofs.Laws.{added-none, added_joined, list-found, list-past}
use Rattle.index_words.specs.declared.Meaning.{Meaning}
use Rattle.index_words.specs.declared.Meaning.TheVariants.{Year}
use Rattle.index_words.specs.Indices.{index_words, indices_words, Low}

-- the season, the day and the hour of a slice are no larger than its number
module _ (c : Counts) (s : ℕ) {p : Slice} (e : p ≡ slice_at c s) (h : s ≤ 1000) where
  pub low-season : p.season ≤ 1000
  unfolding slice_at
  low-season = rw e (omega (arith, div-le_self s c.hours, div-le_self (s / c.hours) c.days))

  pub low-day : p.day ≤ 1000
  unfolding slice_at
  low-day = rw e (omega (arith, div-le_self s c.hours, mod-le (s / c.hours) c.days))

  pub low-hour : p.hour ≤ 1000
  unfolding slice_at
  low-hour = rw e (omega (arith, mod-le s c.hours))

pub ruleset low_parts = (low-season, low-day, low-hour)

-- the indices before one, and it behind them
pub one_more : (c : Counts) (r : Index) (meanings : List Meaning) (i : ℕ) → i < length meanings
    → indices_words c r (take (i + 1) meanings) ≡ indices_words c r (take i meanings) ++ index_words c r (get_or meanings i Year)
unfolding indices_words
one_more c r meanings i h =
    rw (add-one i, take-suc meanings i Year h, flat_map-append) (ap (λ (l : List ℕ). indices_words c r (take i meanings) ++ l) (append-nil _))

pub ruleset several = (added-none, added_joined, one_more)

pub ruleset listed = (added-none, list-found, list-past)

-- a member of an index set has low indices
pub low-inside : {c : Counts} → Counted c → (k : ℕ) (p : Place) → Inside c k p.year p.first p.second p.slice → Low p
low-inside {c} n k p h =
    let b = small-set n k in
    record {
      low_year = omega (arith, h.year, b.few_years);
      low_first = omega (arith, h.first, b.few_firsts);
      low_second = omega (arith, h.second, b.few_seconds);
      low_slice = omega (arith, h.slice, b.few_slices);
    }
