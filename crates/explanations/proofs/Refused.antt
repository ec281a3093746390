-- Where certify withholds with a refusal, what the refusal's place asks stands. Assumes nothing.
use mathlib.Core.Path.{◌≡◌, subst}
use mathlib.Core.Bool.{Bool}
use mathlib.Core.List.{List}
use Prim.Native.Nat.{ℕ, ◌<◌}
use native.Mathlib.Omega.{arith}
use borrow.Author.Tests.{leb-true, eqb-true}
use lib.IntN.{ℤ}
use lib.ListN.{length}
use Rattle.sums.specs.Span.{Fault, fine, fault, or_else, first}
use Rattle.sums.specs.declared.Box.{Box}
use Rattle.sums.specs.Index.{Index, index, count, number, members}
use Rattle.sums.proofs.Spans.{or_else-fine, from_either, from-range, from_member}
use Rattle.sums.proofs.Indices.{in-member}
use Rattle.sums.proofs.Numbering.{number_bound}
use Rattle.model.specs.declared.Refusal.{Refusal}
use Rattle.std.proofs.Common.{Err}
use Rattle.model.specs.Data.{table_boxes, place_of, data_length, read, G}
use Rattle.model.specs.Columns.{column_boxes, column_number, entries}
use Rattle.model.specs.Families.{row_boxes, row_number}
use Rattle.model.specs.Tests.{unless, head_fault, count_fault, counts_fault, length_fault, entry_fault, entries_fault, plant_storage_fault, storage_fault, data_fault, scale_fault, plan_length_fault, row_fault, rows_fault, cost_fault, plan_fault, multiplier_count_fault, multiplier_fault, multipliers_fault, column_fault, columns_fault, gap_fault, dual_fault}
use Rattle.model.specs.Calls.{certificate, check_fault, certify_fault, certify}
use Rattle.model.proofs.Sound.{passed, own-refusal}
use Rattle.sentences.specs.Asked.{OfRow, OfColumn, HeadFine}
use Rattle.answer_words.specs.Asked.{Asked}

-- certify withholds with the fault of its tests
withheld-fault : (f : Fault Refusal) (c g : ℕ) {r : Refusal} → certificate f c g ≡ Err r → f ≡ fault r
withheld-fault fine c g e = let z : ◌≡◌ {A = ℕ} 0 1 = cc in absurd (omega arith)
withheld-fault (fault s) c g e = cc

-- a member of a list of index sets gave it, and its number is below their count
numbered-member : (boxes : List Box) (t : Index → Fault Refusal) {r : Refusal} → first (members boxes) t ≡ fault r → (k : Index) × (number boxes k < count boxes) × (t k ≡ fault r)
numbered-member boxes t e =
    let m = from_member (members boxes) t e in
    (m.0, number_bound boxes m.0 (in-member boxes m.0 m.1), m.2)

head-fine : (l : List ℕ) → head_fault l ≡ fine → counts_fault l ≡ fine → length_fault l ≡ fine → HeadFine l
unfolding or_else
head-fine l a b c = rw (a, b) c

module _ (l : List ℕ) (plan : List ℕ) (ms : List ℤ) {r : Refusal} where
  -- by a test with its own refusal
  asked_by : (b : Bool) (q : Refusal) → Asked l plan ms q → unless b q ≡ fault r → Asked l plan ms r
  asked_by b q a e = subst (Asked l plan ms) (own-refusal b q e) a

  -- the data
  counts-asked : head_fault l ≡ fine → counts_fault l ≡ fault r → Asked l plan ms r
  unfolding head_fault counts_fault count_fault
  counts-asked h e =
      let d = from-range 7 (count_fault l) e in
      asked_by _ _ (leb-true 7 (length l) (passed _ _ h), d.1) d.2

  entry-asked : HeadFine l → (k : Index) → number (table_boxes (read l).counts) k < count (table_boxes (read l).counts)
      → entry_fault (read l) k ≡ fault r → Asked l plan ms r
  unfolding entry_fault place_of data_length
  entry-asked h (index t y i j s) m e = asked_by _ _ (h, (omega arith, omega (arith, m))) e

  entries-asked : HeadFine l → entries_fault (read l) ≡ fault r → Asked l plan ms r
  unfolding entries_fault
  entries-asked h e =
      let m = numbered-member (table_boxes (read l).counts) (entry_fault (read l)) e in
      entry-asked h m.0 m.1 m.2

  storage-asked : HeadFine l → storage_fault (read l) ≡ fault r → Asked l plan ms r
  unfolding storage_fault plant_storage_fault
  storage-asked h e =
      let d = from-range (G (read l)) (plant_storage_fault (read l)) e in
      asked_by _ _ (h, d.1) d.2

  pub data-asked : data_fault l ≡ fault r → Asked l plan ms r
  unfolding data_fault head_fault length_fault
  data-asked e =
      from_either (head_fault l) _ e (λ p. asked_by _ _ tt p) (λ a e1.
      from_either (counts_fault l) _ e1 (counts-asked a) (λ b e2.
      from_either (length_fault l) _ e2 (λ p. asked_by _ _ tt p) (λ c e3.
      let h = head-fine l a b c in
      from_either (entries_fault (read l)) _ e3 (entries-asked h) (λ _ e4.
      storage-asked h e4))))

  -- the plan
  module _ (sound : data_fault l ≡ fine) where
    rows-asked : (N : ℕ) → plan_length_fault (read l) plan ≡ fine → rows_fault (read l) N (entries (read l) plan) ≡ fault r → Asked l plan ms r
    unfolding plan_length_fault rows_fault row_fault
    rows-asked N h e =
        let m = numbered-member (row_boxes (read l).counts) (row_fault (read l) N (entries (read l) plan)) e in
        let row : OfRow l plan (row_number (read l) m.0) = (sound, (eqb-true _ _ (passed _ _ h), m.1)) in
        from_either _ _ m.2 (asked_by _ _ row) (λ _ q. asked_by _ _ row q)

    pub plan-asked : (N : ℕ) → plan_fault (read l) N plan ≡ fault r → Asked l plan ms r
    unfolding plan_fault scale_fault plan_length_fault cost_fault
    plan-asked N e =
        from_either (scale_fault N) _ e (λ p. asked_by _ _ tt p) (λ _ e1.
        from_either (plan_length_fault (read l) plan) _ e1 (λ p. asked_by _ _ tt p) (λ h e2.
        from_either (rows_fault (read l) N (entries (read l) plan)) _ e2 (rows-asked N h) (λ _ e3.
        asked_by _ _ tt e3)))

    -- the multipliers
    multipliers-asked : length ms ≡ count (row_boxes (read l).counts) → multipliers_fault (read l) ms ≡ fault r → Asked l plan ms r
    unfolding multipliers_fault multiplier_fault
    multipliers-asked h e =
        let m = numbered-member (row_boxes (read l).counts) (multiplier_fault (read l) ms) e in
        asked_by _ _ (sound, (h, m.1)) m.2

    columns-asked : length ms ≡ count (row_boxes (read l).counts) → columns_fault (read l) ms ≡ fault r → Asked l plan ms r
    unfolding columns_fault column_fault
    columns-asked h e =
        let m = numbered-member (column_boxes (read l).counts) (column_fault (read l) ms) e in
        let column : OfColumn l ms (column_number (read l) m.0) = (sound, (h, m.1)) in
        from_either _ _ m.2 (asked_by _ _ column) (λ _ q. asked_by _ _ column q)

    pub dual-asked : (N : ℕ) → dual_fault (read l) ms N ≡ fault r → Asked l plan ms r
    unfolding dual_fault multiplier_count_fault gap_fault
    dual-asked N e =
        from_either (multiplier_count_fault (read l) ms) _ e (λ p. asked_by _ _ tt p) (λ h e1.
        let whole = eqb-true _ _ (passed _ _ h) in
        from_either (multipliers_fault (read l) ms) _ e1 (multipliers-asked whole) (λ _ e2.
        from_either (columns_fault (read l) ms) _ e2 (columns-asked whole) (λ _ e3.
        asked_by _ _ tt e3)))

pub refused-asked : (l : List ℕ) (N : ℕ) (plan : List ℕ) (ms : List ℤ) {r : Refusal} → certify l N plan ms ≡ Err r → Asked l plan ms r
unfolding certify certify_fault check_fault
refused-asked l N plan ms e =
    from_either (check_fault l N plan) _ (withheld-fault (certify_fault l N plan ms) _ _ e)
    (λ p. from_either (data_fault l) _ p (data-asked l plan ms) (λ sound q. plan-asked l plan ms sound N q))
    (λ p q. dual-asked l plan ms (or_else-fine (data_fault l) _ p).0 N q)
