-- Laws of post after check: its two ways on, the board's test, and the year's outputs.
use Rattle.std.specs.Prelude.{Result, Ok, Err}
use mathlib.Core.Path.{◌≡◌, refl, sym, ◌∙◌, ap}
use mathlib.Core.Bool.{Bool, true, false, ◌&&◌}
use Prim.Native.Nat.{ℕ, ◌+◌, ◌*◌, ◌-◌}
use native.Mathlib.Omega.{arith}
use lib.Dec.{ltb, leb}
use lib.ListN.{take, drop, get_or}
use mathlib.Core.List.{List}
use Rattle.sums.specs.Span.{Fault}
use Rattle.sums.specs.Index.{start}
use Rattle.model.specs.declared.Refusal.{Refusal}
use Rattle.model.specs.Data.{Data}
use Rattle.model.specs.Columns.{column_boxes}
use Rattle.model.specs.Tests.{unless, board_fault}
use Rattle.model.specs.Calls.{answer, board_after, year_outputs}
use Rattle.model.specs.declared.Counts.{Counts}
use Rattle.model.specs.Columns.{column_sets, column_number, gen}
use Rattle.model.specs.declared.Refusal.TheVariants.{Board}
use Rattle.model.specs.Counts.{slices_of}
use Rattle.model.specs.Data.{Y, G, S}
use Rattle.tables.specs.Layout.{ColumnsAt, start_from}
use Rattle.tables.specs.declared.lists.Plan.{Plan}
use Rattle.tables.proofs.Laws.{start-at}
use Rattle.boards.specs.Boards.{after, board_after_check}

-- the two ways on from check's answer

module _ (a : Result ℕ Refusal) (f : Fault Refusal) (old new : List ℕ) where
  pub kept-after : {b : Result ℕ Refusal} {r : Refusal} → a ≡ Err r → b ≡ Err r → (b ≡ after a f) × (old ≡ board_after_check a f old new)
  unfolding after board_after_check
  kept-after e p = rw e (p, refl)

  pub put-by-test : {b : Result ℕ Refusal} {last : List ℕ} {c : ℕ} → a ≡ Ok c → b ≡ answer f c → last ≡ board_after f old new → (b ≡ after a f) × (last ≡ board_after_check a f old new)
  unfolding after board_after_check
  put-by-test e p q = rw e (p, q)

-- the board's test, and the year's outputs

pub board-tested : (D : Data) (y places start : ℕ) {f : Bool} {years needed : ℕ} → f ≡ (ltb y years && leb needed (places - start)) → years ≡ Y D → needed ≡ G D * S D
    → board_fault D y places start ≡ unless f Board
unfolding board_fault
board-tested D y places start e p q = rw (e, p, q)

pub outputs-are : (D : Data) (p : Plan) (y : ℕ) {c : Counts} {plan : List ℕ} {part : List ℕ} → D.counts ≡ c → (p.list.now ≡ plan) × (p.counts ≡ c) → ColumnsAt p.list.now p.starts p.counts
    → part ≡ take (p.counts.plants * slices_of p.counts) (drop (get_or p.starts 3 0 + y * (p.counts.plants * slices_of p.counts)) p.list.now) → part ≡ year_outputs D plan y
unfolding year_outputs column_boxes
outputs-are D p y {plan = plan} e q at h =
    let own : p.counts ≡ D.counts = q.1 ∙ sym e in
    let start : get_or p.starts 3 0 + y * (G D * S D) ≡ column_number D (gen y 0 0) =
    omega (arith, at.starts 3 (omega arith), ap (λ (d : Counts). start_from d column_sets 0 3) own, start-at D.counts column_sets 0 3 (omega arith)) in
    h ∙ rw (q.0, own) (ap (λ (n : ℕ). take (G D * S D) (drop n plan)) start)

pub places-are : {c : Counts} {n : ℕ} (D : Data) → D.counts ≡ c → n ≡ slices_of c → c.plants * n ≡ G D * S D
places-are D e q = rw (e, q)

pub years-are : {c : Counts} (D : Data) → D.counts ≡ c → c.years ≡ Y D
years-are D e = rw e

module _ (f : Fault Refusal) (b : Bool) (c : ℕ) (old new : List ℕ) (e : f ≡ unless b Board) where
  pub board-refused : b ≡ false → (Err Board ≡ answer f c) × (old ≡ board_after f old new)
  unfolding unless
  board-refused h = rw (e, h) (refl, refl)

  pub board-written : {last : List ℕ} → b ≡ true → last ≡ new → (Ok c ≡ answer f c) × (last ≡ board_after f old new)
  unfolding unless
  board-written h q = rw (e, h) (refl, q)
