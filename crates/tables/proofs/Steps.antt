-- A walk over the members of a list of boxes in the order of their numbers, left at the first fault: what each of its five loops knows.
-- The walks over the rows and over the columns are of this kind. Assumes nothing.
use Rattle.std.specs.Prelude.{Result, Ok, Err}
use mathlib.Core.Path.{◌≡◌, refl, ap, ◌∙◌}
use mathlib.Core.List.{List}
use Prim.Native.Nat.{ℕ, ◌+◌, ◌*◌, ◌≤◌, ◌<◌}
use native.Mathlib.Nat.{mul-le-mul, le_antisymm}
use native.Mathlib.Omega.{arith}
use lib.ListN.{length}
use Rattle.sums.specs.declared.Box.{Box}
use Rattle.sums.specs.Span.{Fault, fine, fault, upto, first}
use Rattle.sums.specs.Index.{Index, index, box_of, volume, inside, start, number, members}
use Rattle.sums.proofs.Sums.{sum-one-more}
use Rattle.sums.proofs.Spans.{upto_step, upto-stop}
use Rattle.sums.proofs.Numbering.{inside-bound}
use Rattle.model.specs.declared.Refusal.{Refusal}
use Rattle.tables.specs.Layout.{Small}
use Rattle.model.specs.Calls.{outcome}

few-members : {b : Box} → Small b → volume b ≤ 983040
few-members n = mul-le-mul (mul-le-mul (mul-le-mul n.few_years n.few_firsts) n.few_seconds) n.few_slices

-- The loops

-- after k of n turns of a loop whose turn k tests t k: nothing is refused yet, and the next member's number, at w members to a turn
pub record Going (t : ℕ → Fault Refusal) (n w from k row : ℕ) (answer : Result (Unit {0}) Refusal) : Type 0 where
  pub accepted : answer ≡ Ok tt
  pub within : k ≤ n
  pub passed : upto k t ≡ fine
  pub numbered : row ≡ from + k * w

-- its end
pub all : {t : ℕ → Fault Refusal} {n w from k row : ℕ} {answer : Result (Unit {0}) Refusal} → Going t n w from k row answer → n ≤ k → (upto n t ≡ fine) × (row ≡ from + n * w)
all {n = n} {k = k} h l = let q : k ≡ n = le_antisymm h.within l in (rw (← q) h.passed, rw (← q) h.numbered)

module _ {t : ℕ → Fault Refusal} {n w from k row : ℕ} {answer : Result (Unit {0}) Refusal} (h : Going t n w from k row answer) (l : k < n) where
  pub more : {next : ℕ} {later : Result (Unit {0}) Refusal} → t k ≡ fine → later ≡ Ok tt → next ≡ row + w → Going t n w from (k + 1) next later
  more e a r = record { accepted = a; within = omega arith; passed = upto_step k t h.passed ∙ e; numbered = omega (arith, r, h.numbered) }

  -- a turn whose test is a loop of its own
  pub turn : {s : ℕ → Fault Refusal} {m v i next : ℕ} {later : Result (Unit {0}) Refusal} → Going s m v row i next later → m ≤ i → t k ≡ upto m s → m * v ≡ w
      → Going t n w from (k + 1) next later
  turn g p e q = let i = all g p in more (e ∙ i.0) g.accepted (omega (arith, i.1, q))

-- the tests of the members of kind k, from the innermost level outwards
module _ (T : Index → Fault Refusal) (b : Box) (k : ℕ) where
  abbrev pub of_second : ℕ → ℕ → ℕ → Fault Refusal
  of_second y i j = upto b.slices (λ s. T (index k y i j s))

  abbrev pub of_first : ℕ → ℕ → Fault Refusal
  of_first y i = upto b.seconds (λ j. of_second y i j)

  abbrev pub of_year : ℕ → Fault Refusal
  of_year y = upto b.firsts (λ i. of_first y i)

  abbrev pub of_kind : Fault Refusal
  of_kind = upto b.years (λ y. of_year y)

-- how many members a year of a kind has
abbrev pub year_members : Box → ℕ
year_members b = b.firsts * (b.seconds * b.slices)

-- after the members of k kinds
pub record Walked (T : Index → Fault Refusal) (boxes : List Box) (k row : ℕ) (answer : Result (Unit {0}) Refusal) : Type 0 where
  pub accepted : answer ≡ Ok tt
  pub within : k ≤ length boxes
  pub passed : upto k (λ i. of_kind T (box_of boxes i) i) ≡ fine
  pub numbered : row ≡ start boxes k
  pub few : row ≤ 983040 * k

module _ {T : Index → Fault Refusal} {boxes : List Box} {k row : ℕ} {answer : Result (Unit {0}) Refusal} (h : Walked T boxes k row answer) where
  pub walked_more : {b : Box} {y next : ℕ} {later : Result (Unit {0}) Refusal} → k < length boxes → b ≡ box_of boxes k → Small b
      → Going (λ y. of_year T b k y) b.years (year_members b) row y next later → b.years ≤ y → Walked T boxes (k + 1) next later
  walked_more {b} {next = next} l e n g p =
      let a = all g p in
      let size : next ≡ row + volume b = omega (arith, a.1) in
      record {
        accepted = g.accepted;
        within = omega arith;
        passed = upto_step k (λ i. of_kind T (box_of boxes i) i) h.passed ∙ rw (← e) a.0;
        numbered = omega (arith, size, h.numbered, sum-one-more k (λ i. volume (box_of boxes i)), ap (λ (b : Box). volume b) e);
        few = omega (arith, size, h.few, few-members n);
      }

  pub walked_all : length boxes ≤ k → first (members boxes) T ≡ fine
  walked_all l = let q : k ≡ length boxes = le_antisymm h.within l in rw q at h.passed

  -- one member, from where the loops stand
  module _ {b : Box} {y i j s r1 r2 r3 r4 : ℕ} {a1 a2 a3 a4 : Result (Unit {0}) Refusal} (l : k < length boxes) (e : b ≡ box_of boxes k)
      (g1 : Going (λ y. of_year T b k y) b.years (year_members b) row y r1 a1) (l1 : y < b.years)
      (g2 : Going (λ i. of_first T b k y i) b.firsts (b.seconds * b.slices) r1 i r2 a2) (l2 : i < b.firsts)
      (g3 : Going (λ j. of_second T b k y i j) b.seconds b.slices r2 j r3 a3) (l3 : j < b.seconds)
      (g4 : Going (λ s. T (index k y i j s)) b.slices 1 r3 s r4 a4) (l4 : s < b.slices) where
    member-place : r4 ≡ start boxes k + inside b y i j s
    member-place = omega (arith, h.numbered, g1.numbered, g2.numbered, g3.numbered, g4.numbered)

    pub member-number : r4 ≡ number boxes (index k y i j s)
    member-number = member-place ∙ ap (λ (b : Box). start boxes k + inside b y i j s) e

    pub member_below : Small b → r4 ≤ 983040 * length boxes
    member_below n = omega (arith, member-place, h.numbered, h.few, few-members n, inside-bound b y i j s l1 l2 l3 l4)

    pub stopped : {r : Refusal} → T (index k y i j s) ≡ fault r → first (members boxes) T ≡ fault r
    stopped z =
        upto-stop (length boxes) k (λ i. of_kind T (box_of boxes i) i) l h.passed
        (rw (← e)
        (upto-stop b.years y (λ y. of_year T b k y) l1 g1.passed
        (upto-stop b.firsts i (λ i. of_first T b k y i) l2 g2.passed
        (upto-stop b.seconds j (λ j. of_second T b k y i j) l3 g3.passed
        (upto-stop b.slices s (λ s. T (index k y i j s)) l4 g4.passed z)))))

-- a member's test, from the code's answer

pub outcome-fine : (f : Fault Refusal) {o : Result (Unit {0}) Refusal} → o ≡ outcome f → o ≡ Ok tt → f ≡ fine
outcome-fine fine e h = refl
outcome-fine (fault r) e h = let z : ◌≡◌ {A = ℕ} 0 1 = cc in absurd (omega arith)

pub outcome-fails : (f : Fault Refusal) {o : Result (Unit {0}) Refusal} {r : Refusal} → o ≡ outcome f → o ≡ Err r → f ≡ fault r
outcome-fails fine e h = let z : ◌≡◌ {A = ℕ} 0 1 = cc in absurd (omega arith)
outcome-fails (fault q) e h = cc
