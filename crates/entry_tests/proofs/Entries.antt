-- The walk through the entries that is left at the first out of range. Assumes nothing.
use mathlib.Core.Path.{◌≡◌, refl, sym, ap, ◌∙◌}
use mathlib.Core.Bool.{Bool}
use mathlib.Core.List.{List}
use Prim.Native.Nat.{ℕ, ◌+◌, ◌≤◌, ◌<◌}
use native.Mathlib.Omega.{arith}
use lib.ListN.{length, get_or}
use Rattle.sums.specs.declared.Box.{Box}
use Rattle.sums.specs.Span.{Fault, upto}
use Rattle.sums.specs.Index.{index, box_of, volume, inside}
use Rattle.model.specs.declared.Refusal.{Refusal}
use Rattle.model.specs.declared.Refusal.TheVariants.{Entry}
use Rattle.model.specs.declared.Counts.{Counts}
use Rattle.model.specs.Counts.{sets}
use Rattle.model.specs.Data.{Data, within, tables, table_boxes, read, place_of}
use Rattle.model.specs.Tests.{unless, entry_fault, entries_fault}
use Rattle.ranges.specs.declared.Range.{Range}
use Rattle.tables.specs.Layout.{TablesAt, EntryAt, start_from, table_sets}
use Rattle.ranges.specs.Ranges.{ranged, range_of}
use Rattle.tables.proofs.Walk.{Reached, turned, ended}
use Rattle.tables.proofs.Laws.{entry-below, entry-is, entry-place, box-at, start-more}

-- the faults of a table with the index set b, level by level
module _ (D : Data) (b : Box) (t : ℕ) where
  abbrev pub at_slice : ℕ → ℕ → ℕ → ℕ → Fault Refusal
  at_slice y i j s = entry_fault D (index t y i j s)

  abbrev pub at_second : ℕ → ℕ → ℕ → Fault Refusal
  at_second y i j = upto b.slices (λ s. at_slice y i j s)

  abbrev pub at_first : ℕ → ℕ → Fault Refusal
  at_first y i = upto b.seconds (λ j. at_second y i j)

  abbrev pub at_year : ℕ → Fault Refusal
  at_year y = upto b.firsts (λ i. at_first y i)

  abbrev pub at_table : Fault Refusal
  at_table = upto b.years (λ y. at_year y)

-- the table's own index set
abbrev pub table_fault : Data → ℕ → Fault Refusal
table_fault D t = at_table D (box_of (table_boxes D.counts) t) t

pub all-tables : (D : Data) → entries_fault D ≡ upto (length tables) (table_fault D)
unfolding entries_fault table_boxes
all-tables D = refl

-- a turn of a loop whose test is a loop of its own
pub turn : {f g : ℕ → Fault Refusal} {p q : ℕ → ℕ} {k n i m before place : ℕ}
    → Reached f p k n before → k < n → Reached g q i m place → m ≤ i → f k ≡ upto m g → q m ≡ p (k + 1) → Reached f p (k + 1) n place
turn r h s d e w = let t = ended s d in turned r h (e ∙ t.0) (t.1 ∙ w)

module _ {l tables-at : List ℕ} {c : Counts} (h : TablesAt l tables-at c) {b : Box} {t : ℕ} (few : t < length tables) (e : b ≡ box_of (sets c) (get_or table_sets t 0)) where
  -- the place where the table starts
  abbrev pub base : ℕ
  base = start_from c table_sets 7 t

  pub box-faults : table_fault (read l) t ≡ at_table (read l) b t
  unfolding table_boxes
  box-faults = ap (λ (d : Box). at_table (read l) d t) (ap (λ (k : Counts). box_of (table_boxes k) t) h.counts ∙ box-at c table_sets t few ∙ sym e)

  pub next-table : base + inside b b.years 0 0 0 ≡ start_from c table_sets 7 (t + 1)
  next-table = omega (arith, start-more c table_sets 7 t {size = volume b} refl (ap (λ (d : Box). volume d) e))

  module _ {y i j s place : ℕ} (hy : y < b.years) (hi : i < b.firsts) (hj : j < b.seconds) (hs : s < b.slices) (q : place ≡ base + inside b y i j s) where
    entry_at : EntryAt table_sets c t (get_or table_sets t 0) y i j s
    entry_at = record { table = few; set = refl; inside = record { year = rw e at hy; «first» = rw e at hi; second = rw e at hj; slice = rw e at hs } }

    is-place : place ≡ get_or tables-at t 0 + inside (box_of (sets c) (get_or table_sets t 0)) y i j s
    is-place = omega (arith, q, h.starts t (omega arith), ap (λ (d : Box). inside d y i j s) e)

    pub place-below : place < length l
    place-below = omega (arith, is-place, entry-below h entry_at)

    -- what the test of one entry says
    pub tested : {r : Range} {ok : Bool} → ranged r ≡ range_of t (read l) y i j s → ok ≡ within (ranged r) (get_or l place 0)
        → entry_fault (read l) (index t y i j s) ≡ unless ok (Entry place)
    unfolding entry_fault
    tested {r} {ok} w o =
        let v : get_or l place 0 ≡ (read l).entry t y i j s = ap (λ (n : ℕ). get_or l n 0) is-place ∙ entry-is h entry_at in
        let n : place ≡ place_of (read l).counts (index t y i j s) = is-place ∙ entry-place h entry_at in
        rw (o, ← w, ← v, ← n)
