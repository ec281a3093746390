-- What passed tests of the data say of its entries.
use Rattle.std.specs.Prelude.{Err}
use mathlib.Core.Path.{◌≡◌, refl, sym}
use mathlib.Core.Bool.{Bool, true, false, ◌&&◌}
use mathlib.Core.Logic.{⊎_elim}
use mathlib.Core.List.{List}
use Prim.Native.Nat.{ℕ, ◌*◌, ◌-◌, ◌≤◌, ◌<◌}
use native.Mathlib.Nat.{zero-mul, mul-zero}
use native.Mathlib.Omega.{arith}
use lib.Dec.{leb}
use lib.ListN.{get_or}
use borrow.Author.Tests.{leb-true}
use Rattle.capped.proofs.Laws.{le-or-lt}
use Rattle.sums.specs.Span.{Fault, fine, fault}
use Rattle.sums.specs.Index.{Index, index, Member, members}
use Rattle.sums.proofs.Spans.{fault-fine, or_else-fine, first_fine, upto-fine}
use Rattle.sums.proofs.Indices.{member-in}
use Rattle.model.specs.declared.Refusal.{Refusal}
use Rattle.model.specs.declared.Refusal.TheVariants.{Entry}
use Rattle.model.specs.Data.{Data, Range, within, tables, table_boxes, read, place_of, most_counts, all, ◌to◌, Z, F}
use Rattle.model.specs.Families.{equation}
use Rattle.model.specs.Tests.{unless, entry_fault, entries_fault, data_fault, counts_fault, count_fault, constant⁺, constant⁻}
use Rattle.model.specs.Calls.{answer, board_after, post_fault, post, posted}
use Rattle.model.specs.Standing.{Placed}
use Rattle.model.specs.Claims.{OneConstant, SoundPlaces, KeptBoard}

-- a test that gave no refusal passed
pub passed : (b : Bool) (r : Refusal) → unless b r ≡ fine → b ≡ true
unfolding unless
passed true r e = refl
passed false r e = fault-fine e

-- one that gave a refusal failed, and the refusal is its own
pub failed : (b : Bool) (q : Refusal) {r : Refusal} → unless b q ≡ fault r → b ≡ false
unfolding unless
failed true q e = fault-fine (sym e)
failed false q e = refl

pub own-refusal : (b : Bool) (q : Refusal) {r : Refusal} → unless b q ≡ fault r → q ≡ r
unfolding unless
own-refusal true q e = fault-fine (sym e)
own-refusal false q e = cc

pub both : (a b : Bool) → (a && b) ≡ true → (a ≡ true) × (b ≡ true)
both true b e = (refl, e)
both false b e = let z : ◌≡◌ {A = ℕ} 0 1 = cc in absurd (omega arith)

-- a number in its range
pub in-range : (r : Range) (v : ℕ) → within r v ≡ true → (r.least ≤ v) × (v ≤ r.most)
in-range r v e =
    let p = both (leb r.least v) (leb v r.most) e in
    (leb-true _ _ p.0, leb-true _ _ p.1)

module _ (D : Data) (sound : entries_fault D ≡ fine) where
  -- every entry is in its range
  pub entry-range : (t y i j s : ℕ) → Member (table_boxes D.counts) (index t y i j s)
      → (((get_or tables t (all 0 (0 to 0))).range D y i j s).least ≤ D.entry t y i j s) × (D.entry t y i j s ≤ ((get_or tables t (all 0 (0 to 0))).range D y i j s).most)
  unfolding entries_fault entry_fault
  entry-range t y i j s m =
      in-range ((get_or tables t (all 0 (0 to 0))).range D y i j s) (D.entry t y i j s)
      (passed _ (Entry (place_of D.counts (index t y i j s)))
      (first_fine (members (table_boxes D.counts)) (entry_fault D) sound (index t y i j s) (member-in (table_boxes D.counts) (index t y i j s) m)))

  -- a plant's zone and fuel; the counts are at least 1
  pub placed : 1 ≤ Z D → 1 ≤ F D → Placed D
  unfolding table_boxes
  placed hz hf = record {
    zoned = λ g hg. omega (arith, (entry-range 4 0 g 0 0 (omega arith, omega arith, hg, omega arith, omega arith)).1);
    fuelled = λ g hg. omega (arith, (entry-range 5 0 g 0 0 (omega arith, omega arith, hg, omega arith, omega arith)).1);
  }

-- a count that passed is in its range
pub count-range : (l : List ℕ) → counts_fault l ≡ fine → (i : ℕ) → i < 7 → (1 ≤ get_or l i 0) × (get_or l i 0 ≤ get_or most_counts i 0)
unfolding counts_fault count_fault
count-range l e i h = in-range (1 to get_or most_counts i 0) (get_or l i 0) (passed _ _ (upto-fine 7 (count_fault l) e i h))

-- data that pass the tests have every entry in its range, and their counts
pub passed-entries : (l : List ℕ) → data_fault l ≡ fine → entries_fault (read l) ≡ fine
unfolding data_fault
passed-entries l e =
    let tests = or_else-fine _ _ (or_else-fine _ _ (or_else-fine _ _ (or_else-fine _ _ e).1).1).1 in
    search (tests)

passed-counts : (l : List ℕ) → data_fault l ≡ fine → counts_fault l ≡ fine
unfolding data_fault
passed-counts l e = (or_else-fine _ _ (or_else-fine _ _ e).1).0

pub sound-places : SoundPlaces
unfolding read
sound-places l e =
    let counts = count-range l (passed-counts l e) in
    placed (read l) (passed-entries l e) (counts 0 (omega arith)).0 (counts 2 (omega arith)).0

-- of two differences cut off at zero one is 0
one_side : (a b : ℕ) → (a - b) * (b - a) ≡ 0
one_side a b =
    ⊎_elim (λ (h : a ≤ b). let e : a - b ≡ 0 = omega arith in rw e (zero-mul (b - a)))
    (λ (h : b < a). let e : b - a ≡ 0 = omega arith in rw e (mul-zero (a - b))) (le-or-lt a b)

pub one-constant : (D : Data) (r : Index) → OneConstant D r
unfolding constant⁺ constant⁻
one-constant D r = record { one = one_side (equation D r).plus (equation D r).minus; net = omega arith }

-- post refuses only where a test gave a refusal
kept : (f : Fault Refusal) (c : ℕ) (old new : List ℕ) (r : Refusal) → answer f c ≡ Err r → board_after f old new ≡ old
kept fine c old new r e = let z : ◌≡◌ {A = ℕ} 0 1 = cc in absurd (omega arith)
kept (fault s) c old new r e = refl

pub kept-board : KeptBoard
unfolding post posted
kept-board l N plan y board start r e = kept (post_fault l N plan y board start) _ board _ r e
