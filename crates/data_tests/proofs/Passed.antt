-- The tests of the data: what each says, and what callers have of data that passed them all. Assumes nothing.
use Rattle.std.specs.Prelude.{Result, Ok, Err}
use Rattle.model.specs.Calls.{outcome}
use mathlib.Core.Path.{◌≡◌, refl, sym, ap, ◌∙◌}
use mathlib.Core.Bool.{true, false}
use mathlib.Core.List.{List}
use Prim.Native.Nat.{ℕ, ◌≤◌, ◌<◌}
use native.Mathlib.Omega.{arith}
use borrow.Author.Tests.{le-leb, lt-leb, eq-eqb, ne_eqb, leb-true, eqb-true}
use lib.Dec.{eqb, leb}
use lib.ListN.{length, get_or}
use Rattle.sums.specs.Span.{Fault, fine, fault, or_else}
use Rattle.sums.proofs.Spans.{or_else-fine}
use Rattle.model.specs.declared.Refusal.{Refusal}
use Rattle.model.specs.declared.Refusal.TheVariants.{Shape, DataLength}
use Rattle.model.specs.declared.Counts.{Counts}
use Rattle.model.specs.Data.{within, ◌to◌, most_counts, counts_of, data_length, read, table_count}
use Rattle.model.specs.Tests.{unless, head_fault, count_fault, counts_fault, length_fault, entries_fault, storage_fault, data_fault}
use Rattle.model.proofs.Sound.{count-range, passed}
use Rattle.tables.specs.declared.lists.Tables.{Tables}
use Rattle.tables.specs.Layout.{Counted, TablesAt, start_from, table_sets}
use Rattle.tables.proofs.Laws.{tables_end}
use Rattle.tables.proofs.Steps.{outcome-fine}

-- Outcomes of one test and then another

pub stopped : (f g : Fault Refusal) {o : Result (Unit {0}) Refusal} {r : Refusal} → o ≡ outcome f → o ≡ Err r → o ≡ outcome (or_else f g)
unfolding or_else
stopped fine g e q = let z : ◌≡◌ {A = ℕ} 0 1 = cc in absurd (omega arith)
stopped (fault s) g e q = e

-- a refusal that `?` hands on
pub handed_on : (f g : Fault Refusal) {o p : Result (Unit {0}) Refusal} {r : Refusal} → o ≡ outcome f → o ≡ Err r → p ≡ Err r → p ≡ outcome (or_else f g)
handed_on f g e q n = n ∙ sym q ∙ stopped f g e q

pub went_on : (f g : Fault Refusal) {o : Result (Unit {0}) Refusal} → f ≡ fine → o ≡ outcome g → o ≡ outcome (or_else f g)
unfolding or_else
went_on f g p e = rw p e

pub ruleset in_order = (outcome-fine, handed_on, went_on)

pub in-turn : (f g h k : Fault Refusal) → or_else (or_else f (or_else g h)) k ≡ or_else f (or_else g (or_else h k))
unfolding or_else
in-turn (fault r) g h k = refl
in-turn fine (fault r) h k = refl
in-turn fine fine h k = refl

-- a test that refused, and one that did not, in front of the rest
pub refused-by : (f g : Fault Refusal) {o : Result (Unit {0}) Refusal} {r : Refusal} → o ≡ outcome f → o ≡ Err r → or_else f g ≡ fault r
unfolding or_else
refused-by fine g e q = let z : ◌≡◌ {A = ℕ} 0 1 = cc in absurd (omega arith)
refused-by (fault s) g e q = cc

pub passed-by : (f g : Fault Refusal) → f ≡ fine → or_else f g ≡ g
unfolding or_else
passed-by f g e = rw e

pub in_two : (f g h : Fault Refusal) → or_else (or_else f g) h ≡ or_else f (or_else g h)
unfolding or_else
in_two fine g h = refl
in_two (fault r) g h = refl

module _ (l : List ℕ) where
  pub head-short : length l < 7 → head_fault l ≡ fault (DataLength 7)
  unfolding head_fault unless
  head-short h = rw (lt-leb 7 (length l) h)

  pub head-long : 7 ≤ length l → head_fault l ≡ fine
  unfolding head_fault unless
  head-long h = rw (le-leb 7 (length l) h)

  pub count-passed : (i : ℕ) → within (1 to get_or most_counts i 0) (get_or l i 0) ≡ true → count_fault l i ≡ fine
  unfolding count_fault unless
  count-passed i e = rw e

  pub count-refused : (i : ℕ) → within (1 to get_or most_counts i 0) (get_or l i 0) ≡ false → count_fault l i ≡ fault (Shape i)
  unfolding count_fault unless
  count-refused i e = rw e

  -- the length that the counts give is where the last table ends
  pub whole_is : {c : Counts} {n : ℕ} → c ≡ counts_of l → n ≡ start_from c table_sets 7 table_count → n ≡ data_length (counts_of l)
  whole_is {c} e q = q ∙ tables_end c ∙ ap data_length e

  pub length-wrong : {n : ℕ} → n ≡ data_length (counts_of l) → (length l ≡ n → ⊥) → Err (DataLength n) ≡ outcome (length_fault l)
  unfolding length_fault unless
  length-wrong {n} e h = rw (← e, ne_eqb (length l) n h)

  pub length-right : {n : ℕ} → n ≡ data_length (counts_of l) → length l ≡ n → (Ok tt) ≡ outcome (length_fault l)
  unfolding length_fault unless
  length-right {n} e h = rw (← e, eq-eqb (length l) n h)

  -- counts that passed
  pub counted : counts_fault l ≡ fine → Counted (counts_of l)
  counted e =
      let z = count-range l e 0 (omega arith) in
      let g = count-range l e 1 (omega arith) in
      let f = count-range l e 2 (omega arith) in
      let q = count-range l e 3 (omega arith) in
      let d = count-range l e 4 (omega arith) in
      let t = count-range l e 5 (omega arith) in
      let y = count-range l e 6 (omega arith) in
      record {
        some_zones = z.0;
        some_plants = g.0;
        some_fuels = f.0;
        some_seasons = q.0;
        some_days = d.0;
        some_hours = t.0;
        some_years = y.0;
        few_zones = z.1;
        few_plants = g.1;
        few_fuels = f.1;
        few_seasons = q.1;
        few_days = d.1;
        few_hours = t.1;
        few_years = y.1;
      }

-- Data that passed, for callers

-- refusals 1 and 2
abbrev pub head_faults : List ℕ → Fault Refusal
head_faults l = or_else (head_fault l) (or_else (counts_fault l) (length_fault l))

-- refusals 3 and 16
abbrev pub table_faults : List ℕ → Fault Refusal
table_faults l = or_else (entries_fault (read l)) (storage_fault (read l))

pub data-faults : (l : List ℕ) → data_fault l ≡ or_else (head_faults l) (table_faults l)
unfolding data_fault
data-faults l = sym (in-turn (head_fault l) (counts_fault l) (length_fault l) (table_faults l))

module _ (l : List ℕ) (sound : head_faults l ≡ fine) where
  parts : (head_fault l ≡ fine) × (counts_fault l ≡ fine) × (length_fault l ≡ fine)
  parts = let p = or_else-fine (head_fault l) _ sound in let q = or_else-fine (counts_fault l) (length_fault l) p.1 in (p.0, q.0, q.1)

  pub passed-long : 7 ≤ length l
  unfolding head_fault
  passed-long = leb-true _ _ (passed (leb 7 (length l)) (DataLength 7) parts.0)

  pub passed-counts : Counted (counts_of l)
  passed-counts = counted l parts.1

  -- with the starts that `table_starts` gives
  pub passed-tables : (tables-at : List ℕ) {c : Counts} → c ≡ counts_of l → ((t : ℕ) → t ≤ table_count → get_or tables-at t 0 ≡ start_from c table_sets 7 t) → TablesAt l tables-at c
  unfolding length_fault read
  passed-tables tables-at {c} e s =
      rw e record {
        counts = refl;
        counted = passed-counts;
        whole = eqb-true _ _ (passed (eqb (length l) (data_length (counts_of l))) (DataLength (data_length (counts_of l))) parts.2);
        starts = λ t h. s t h ∙ ap (λ (d : Counts). start_from d table_sets 7 t) e;
      }

module _ (l : List ℕ) (sound : data_fault l ≡ fine) where
  both-parts : (head_faults l ≡ fine) × (table_faults l ≡ fine)
  both-parts = or_else-fine (head_faults l) (table_faults l) (sym (data-faults l) ∙ sound)

  pub sound-head : head_faults l ≡ fine
  sound-head = both-parts.0

  pub sound-entries : entries_fault (read l) ≡ fine
  sound-entries = (or_else-fine (entries_fault (read l)) (storage_fault (read l)) both-parts.1).0

  pub sound-counts : Counted (counts_of l)
  sound-counts = passed-counts l sound-head

-- the counts that the code holds are those of the data
pub counts-sound : (l : List ℕ) → data_fault l ≡ fine → {c : Counts} → c ≡ counts_of l → Counted c
counts-sound l s e = rw e (sound-counts l s)

pub counts-read : (l : List ℕ) {c : Counts} → c ≡ counts_of l → (read l).counts ≡ c
unfolding read
counts-read l e = sym e

-- data laid out have the counts of their list
pub laid-counts : (t : Tables) {l : List ℕ} → t.list.now ≡ l → (read l).counts ≡ t.counts
laid-counts t e = rw (← e) t.laid_out.counts
