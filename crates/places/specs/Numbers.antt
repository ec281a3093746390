-- A place as a kind and four indices, and what it is to have a number.
use Rattle.std.specs.Prelude.{◌≡◌, List, ℕ, ◌+◌, ◌*◌, ◌/◌, ◌%◌, ◌≤◌, ◌<◌, length, get_or}
use Rattle.sums.specs.declared.Box.{Box}
use Rattle.sums.specs.Span.{listing}
use Rattle.sums.specs.Index.{Index, index, index_of, inside, start, number, members, Member}
use Rattle.model.specs.declared.Counts.{Counts}
use Rattle.model.specs.Counts.{slices_of}
use Rattle.tables.specs.Layout.{Counted}
use Rattle.sums.specs.declared.Place.{Place}
use Rattle.places.specs.declared.Slice.{Slice}

-- the member of a list of index sets that has the number n
abbrev pub Numbered : List Box → ℕ → Place → Type 0
Numbered boxes n p = Member boxes (index_of p) × (number boxes (index_of p) ≡ n)

-- the member of number n: they are listed in the order of their numbers
unfoldable pub member_at : List Box → ℕ → Index
member_at boxes n = get_or (listing (members boxes)) n (index 0 0 0 0 0)

-- member m of one index set, of the kind k
pub record InBox (b : Box) (k m : ℕ) (p : Place) : Type 0 where
  pub kind : p.kind ≡ k
  pub year : p.year < b.years
  pub «first» : p.first < b.firsts
  pub second : p.second < b.seconds
  pub slice : p.slice < b.slices
  pub number : inside b p.year p.first p.second p.slice ≡ m

-- the numbers at which the kinds of a list of index sets start, counted from a first one, and where the last ends
pub record Starts (boxes : List Box) (from : ℕ) (at : List ℕ) : Type 0 where
  pub long : length at ≡ length boxes + 1
  pub is : (k : ℕ) → k ≤ length boxes → get_or at k 0 ≡ from + start boxes k

-- a slice by its season, its day of the season and its hour of the day
unfoldable pub slice_at : Counts → ℕ → Slice
slice_at c s = record { season = s / c.hours / c.days; day = s / c.hours % c.days; hour = s % c.hours }

-- the season q, the day d and the hour t of a slice s = (q·D + d)·T + t
pub record InSlice (c : Counts) (s : ℕ) (p : Slice) : Type 0 where
  pub season : p.season < c.seasons
  pub day : p.day < c.days
  pub hour : p.hour < c.hours
  pub number : (p.season * c.days + p.day) * c.hours + p.hour ≡ s

-- every slice of the year has its season, day and hour there, and they give its number back (proofs/Laws.antt)
abbrev pub SlicesBack : Type 0
SlicesBack = (c : Counts) → Counted c → (s : ℕ) → s < slices_of c → InSlice c s (slice_at c s)
