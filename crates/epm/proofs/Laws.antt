-- Laws of the calls: the stages of check and post, joined.
use Rattle.model.specs.declared.Certificate.{Certificate}
use Rattle.std.specs.Prelude.{Result, Ok, Err, ok_or}
use mathlib.Core.Path.{◌≡◌, refl, sym, ◌∙◌, ap}
use Prim.Native.Nat.{ℕ, ◌≤◌, ◌<◌}
use native.Mathlib.Omega.{arith}
use borrow.Author.Tests.{leb-true, eqb-true, le-leb, lt-leb}
use lib.IntN.{ℤ}
use lib.ListN.{length}
use mathlib.Core.List.{List}
use lib.Dec.{leb}
use mathlib.Core.Logic.{⊎_elim}
use Rattle.capped.proofs.Laws.{le-or-lt, cap-low, cap-high}
use Rattle.capped.specs.Cap.{limit, cap, Sum}
use Rattle.sums.specs.Span.{Fault, fine, fault, or_else}
use Rattle.sums.specs.Index.{Index, start, count}
use Rattle.model.specs.declared.Counts.{Counts}
use Rattle.model.specs.declared.Refusal.{Refusal}
use Rattle.tables.specs.declared.lists.Tables.{Tables}
use Rattle.model.specs.declared.Refusal.TheVariants.{CostOffScale}
use Rattle.model.specs.Data.{Data, read}
use Rattle.model.specs.Columns.{column_boxes, entries}
use Rattle.model.specs.Prices.{cost}
use Rattle.model.specs.Tests.{unless, data_fault, scale_fault, plan_length_fault, rows_fault, cost_fault, plan_fault, board_fault, dual_fault, gap}
use Rattle.model.specs.Calls.{answer, certificate, answer_code, certificate_code, check_fault, cost_of, check, certify_fault, gap_of, certify, post_fault, post, posted, board_after, replaced, year_outputs, outcome}
use Rattle.sums.proofs.Spans.{or_else-fine}
use Rattle.model.specs.Rival.{Binds}
use Rattle.model.proofs.Sound.{passed}
use Rattle.model.proofs.Demand.{demand3}
use Rattle.tables.proofs.Steps.{outcome-fine}
use Rattle.data_tests.proofs.Passed.{laid-counts, refused-by, passed-by, in_two}
use Rattle.plan_tests.specs.Tests.{plan_test}
use Rattle.boards.specs.Boards.{after, board_after_check}
use Rattle.epm.specs.Answers.{rows_and_cost}

-- an answer as the promises have it: document 01's number and values, and the `Result` with them

pub answered : {r a : Result ℕ Refusal} → r ≡ a → (answer_code r ≡ answer_code a) × (r ≡ a)
answered e = (ap answer_code e, e)

-- with demand 3, which holds of whatever certify answers
pub certified : (l : List ℕ) (N : ℕ) (plan : List ℕ) (ms : List ℤ) {r : Result Certificate Refusal} → r ≡ certify l N plan ms
    → (certificate_code r ≡ certificate_code (certify l N plan ms)) × ((r ≡ certify l N plan ms) × Binds l N r)
certified l N plan ms e = (ap certificate_code e, (e, rw e (demand3 l N plan ms)))

pub refused-first : (f g : Fault Refusal) (c : ℕ) {o : Result (Unit {0}) Refusal} {r : Refusal} {v : Result ℕ Refusal} → o ≡ outcome f → o ≡ Err r → v ≡ Err r → v ≡ answer (or_else f g) c
refused-first f g c e q n = n ∙ rw (refused-by f g e q)

pub passed_first : (f g : Fault Refusal) (c : ℕ) {a : Result ℕ Refusal} → f ≡ fine → a ≡ answer g c → a ≡ answer (or_else f g) c
passed_first f g c e q = q ∙ rw (passed-by f g e)

-- the cost, or refusal 8 where it is above the limit
cost-capped : (n : ℕ) → ok_or (cap n) CostOffScale ≡ answer (unless (leb n limit) CostOffScale) n
unfolding unless
cost-capped n =
    ⊎_elim (λ (h : n ≤ limit). rw (cap-low n h, le-leb n limit h) refl) (λ (h : limit < n). rw (cap-high n h, lt-leb n limit h) refl) (le-or-lt n limit)

module _ (D : Data) (N : ℕ) (x : Index → ℕ) where
  pub rows-refused : {o : Result (Unit {0}) Refusal} {r : Refusal} {v : Result ℕ Refusal} → o ≡ outcome (rows_fault D N x) → o ≡ Err r → v ≡ Err r → v ≡ rows_and_cost D N x
  unfolding rows_and_cost
  rows-refused e q n = refused-first (rows_fault D N x) (cost_fault D x) (cost D x) e q n

  pub cost-answered : {o : Result (Unit {0}) Refusal} {s : Sum} {v : Result ℕ Refusal} → o ≡ outcome (rows_fault D N x) → o ≡ Ok tt → s ≡ cap (cost D x) → v ≡ ok_or s CostOffScale → v ≡ rows_and_cost D N x
  unfolding rows_and_cost cost_fault
  cost-answered e q s v = passed_first (rows_fault D N x) (cost_fault D x) (cost D x) (outcome-fine _ e q) (v ∙ rw s (cost-capped (cost D x)))

-- of data laid out, the number of columns
pub columns-laid : (t : Tables) {l : List ℕ} {n : ℕ} → t.list.now ≡ l → n ≡ count (column_boxes t.counts) → n ≡ count (column_boxes (read l).counts)
columns-laid t e q = q ∙ ap (λ (d : Counts). count (column_boxes d)) (sym (laid-counts t e))

-- check, stage by stage

module _ (l : List ℕ) (N : ℕ) (plan : List ℕ) where
  pub data-refused : {o : Result (Unit {0}) Refusal} {r : Refusal} {v : Result ℕ Refusal} → o ≡ outcome (data_fault l) → o ≡ Err r → v ≡ Err r → v ≡ check l N plan
  unfolding check check_fault
  data-refused e q n = refused-first (data_fault l) (plan_fault (read l) N plan) (cost_of l plan) e q n

  -- the columns' number is where the last kind of column ends
  pub plan-refused : {o : Result (Unit {0}) Refusal} {r : Refusal} {n : ℕ} {v : Result ℕ Refusal} → data_fault l ≡ fine → n ≡ count (column_boxes (read l).counts) → o ≡ plan_test N (length plan) n → o ≡ Err r
      → v ≡ Err r → v ≡ check l N plan
  unfolding check check_fault plan_fault plan_test plan_length_fault
  plan-refused d e t q w =
      passed_first (data_fault l) _ _ d
      (rw (← in_two (scale_fault N) (plan_length_fault (read l) plan) (or_else (rows_fault (read l) N (entries (read l) plan)) (cost_fault (read l) (entries (read l) plan))))
      (refused-first (or_else (scale_fault N) (plan_length_fault (read l) plan)) _ _ (rw (← e) t) q w))

  pub plan-passed : {o : Result (Unit {0}) Refusal} {a : Result ℕ Refusal} {n : ℕ} → data_fault l ≡ fine → n ≡ count (column_boxes (read l).counts) → o ≡ plan_test N (length plan) n → o ≡ Ok tt
      → a ≡ rows_and_cost (read l) N (entries (read l) plan) → a ≡ check l N plan
  unfolding check check_fault plan_fault plan_test plan_length_fault rows_and_cost cost_of
  plan-passed {o} {a} {n} d e t q h =
      passed_first (data_fault l) _ _ d
      (rw (← in_two (scale_fault N) (plan_length_fault (read l) plan) (or_else (rows_fault (read l) N (entries (read l) plan)) (cost_fault (read l) (entries (read l) plan))))
      (passed_first (or_else (scale_fault N) (plan_length_fault (read l) plan)) _ _ (outcome-fine _ refl (rw (← e) (sym t) ∙ q)) h))

-- certify after check

module _ (l : List ℕ) (N : ℕ) (plan : List ℕ) (ms : List ℤ) where
  pub certify-refused : {r : Refusal} {v : Result Certificate Refusal} → check l N plan ≡ Err r → v ≡ Err r → v ≡ certify l N plan ms
  unfolding check certify certify_fault or_else
  certify-refused {r} e n = n ∙ go (check_fault l N plan) e
    where
      go : (f : Fault Refusal) → answer f (cost_of l plan) ≡ Err r → Err r ≡ certificate (or_else f (dual_fault (read l) ms N)) (cost_of l plan) (gap_of l N plan ms)
      go fine p = let z : ◌≡◌ {A = ℕ} 0 1 = cc in absurd (omega arith)
      go (fault s) p = cc

  pub certify-accepted : {c : ℕ} {v : Result Certificate Refusal} → check l N plan ≡ Ok c → v ≡ certificate (dual_fault (read l) ms N) c (gap (read l) ms N c) → v ≡ certify l N plan ms
  unfolding check certify certify_fault gap_of or_else
  certify-accepted {c} {v} e h = go (check_fault l N plan) e
    where
      go : (f : Fault Refusal) → answer f (cost_of l plan) ≡ Ok c
          → v ≡ certificate (or_else f (dual_fault (read l) ms N)) (cost_of l plan) (gap (read l) ms N (cost_of l plan))
      go fine p = let q : cost_of l plan ≡ c = cc in h ∙ rw q
      go (fault s) p = let z : ◌≡◌ {A = ℕ} 0 1 = cc in absurd (omega arith)

-- post after check: what check refuses post refuses, and the board stays; what it accepts goes by the board's test

pub post-after : (l : List ℕ) (N : ℕ) (plan : List ℕ) (y : ℕ) (board : List ℕ) (start : ℕ) {a : Result ℕ Refusal} → a ≡ check l N plan
    → (after a (board_fault (read l) y (length board) start) ≡ post l N plan y board start)
    × (board_after_check a (board_fault (read l) y (length board) start) board (replaced board start (year_outputs (read l) plan y)) ≡ posted l N plan y board start)
unfolding check post posted post_fault or_else after board_after_check
post-after l N plan y board start e = rw e (go (check_fault l N plan))
  where
    go : (f : Fault Refusal)
        → (after (answer f (cost_of l plan)) (board_fault (read l) y (length board) start) ≡ answer (or_else f (board_fault (read l) y (length board) start)) (cost_of l plan))
        × (board_after_check (answer f (cost_of l plan)) (board_fault (read l) y (length board) start) board (replaced board start (year_outputs (read l) plan y))
        ≡ board_after (or_else f (board_fault (read l) y (length board) start)) board (replaced board start (year_outputs (read l) plan y)))
    go fine = (refl, refl)
    go (fault r) = (refl, refl)

-- what a passed test says, and what acceptance says of data and plan

pub plan-whole : (N places columns : ℕ) {o : Result (Unit {0}) Refusal} → o ≡ plan_test N places columns → o ≡ Ok tt → places ≡ columns
unfolding plan_test
plan-whole N places columns e q = eqb-true places columns (passed _ _ (or_else-fine _ _ (outcome-fine _ e q)).1)

pub accepted-parts : (l : List ℕ) (N : ℕ) (plan : List ℕ) {c : ℕ} → check l N plan ≡ Ok c
    → (data_fault l ≡ fine) × (length plan ≡ count (column_boxes (read l).counts))
unfolding check check_fault plan_fault plan_length_fault
accepted-parts l N plan {c} e =
    let two = or_else-fine (data_fault l) (plan_fault (read l) N plan) (all-fine (check_fault l N plan) e) in
    let rest = or_else-fine _ _ (or_else-fine _ _ two.1).1 in
    (two.0, eqb-true _ _ (passed _ _ rest.0))
  where
    all-fine : (f : Fault Refusal) → answer f (cost_of l plan) ≡ Ok c → f ≡ fine
    all-fine fine p = refl
    all-fine (fault r) p = let z : ◌≡◌ {A = ℕ} 0 1 = cc in absurd (omega arith)

pub accepted-cost : (l : List ℕ) (N : ℕ) (plan : List ℕ) {c : ℕ} → check l N plan ≡ Ok c → c ≤ limit
unfolding check check_fault plan_fault cost_fault cost_of
accepted-cost l N plan {c} e = go (check_fault l N plan) refl e
  where
    go : (f : Fault Refusal) → f ≡ check_fault l N plan → answer f (cost_of l plan) ≡ Ok c → c ≤ limit
    go fine h p =
        let q : cost_of l plan ≡ c = cc in
        let two = or_else-fine (data_fault l) (plan_fault (read l) N plan) (sym h) in
        let rest = or_else-fine _ _ (or_else-fine _ _ (or_else-fine _ _ two.1).1).1 in
        omega (arith, q, leb-true (cost (read l) (entries (read l) plan)) limit (passed _ _ rest.1))
    go (fault r) h p = let z : ◌≡◌ {A = ℕ} 0 1 = cc in absurd (omega arith)
