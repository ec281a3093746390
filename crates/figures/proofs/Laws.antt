-- The members of the index sets as the code asks for them, and the figures as the model's definitions. Assumes nothing.
use mathlib.Core.Path.{◌≡◌, refl, ap, ◌∙◌, subst}
use mathlib.Core.Bool.{Bool, true, false, ◌&&◌}
use mathlib.Core.List.{List}
use Prim.Native.Nat.{ℕ, ◌+◌, ◌-◌, ◌<◌}
use native.Mathlib.Omega.{arith}
use lib.Dec.{leb}
use lib.IntN.{ℤ}
use lib.ListN.{length, get_or}
use borrow.Author.Tests.{leb-true, leb-false}
use Rattle.std.proofs.Common.{Ok}
use Rattle.compared.specs.Compared.{net_of}
use Rattle.capped.specs.Cap.{limit, cap, both as join, Sum}
use Rattle.capped.proofs.Laws.{both-cap}
use Rattle.compared.proofs.Laws.{le-difference}
use Rattle.sums.specs.declared.Box.{Box}
use Rattle.sums.specs.Span.{fault, or_else}
use Rattle.sums.specs.Index.{Index, index, Member}
use Rattle.sums.proofs.Numbering.{number_bound}
use Rattle.model.specs.declared.Counts.{Counts}
use Rattle.model.specs.declared.Refusal.TheVariants.{ColumnOffScale, Underpriced}
use Rattle.model.specs.Data as spec
use Rattle.model.specs.Data.{Data, table_boxes, counts_of, place_of, data_length, read}
use Rattle.model.specs.Columns.{column_number, entries}
use Rattle.model.specs.Prices.{price}
use Rattle.model.specs.Tests.{unless, priced⁺, priced⁻, column_fault}
use Rattle.model.proofs.Sound.{both}
use Rattle.ranges.specs.declared.Range.{Range}
use Rattle.tables.specs.Layout.{TablesAt, plan_entry}
use Rattle.ranges.specs.Ranges.{ranged, range_of}
use Rattle.row_sums.specs.declared.Sides.{Sides}
use Rattle.row_sums.specs.Sides.{sides_of}
use Rattle.column_terms.specs.declared.Pair.{Pair}
use Rattle.column_terms.specs.Pairs.{priced_pair}
use Rattle.figures.specs.declared.ColumnFigures.{ColumnFigures}
use Rattle.figures.specs.Figures.{row_figures, column_figures, entry_figures}

-- Members of the index sets

module _ (c : Counts) {t y i j s : ℕ} (m : Member (table_boxes c) (index t y i j s)) where
  pub entry-below : place_of c (index t y i j s) < data_length c
  unfolding place_of data_length
  entry-below = omega (arith, number_bound (table_boxes c) (index t y i j s) m)

-- of data that passed refusals 1 and 2, the place is in the list
pub entry_in : {l tables-at : List ℕ} {c : Counts} {t y i j s place : ℕ} → TablesAt l tables-at c → Member (table_boxes (read l).counts) (index t y i j s)
    → place_of (read l).counts (index t y i j s) ≡ place → place < length l
entry_in {l} n m p = omega (arith, entry-below (read l).counts m, n.whole, ap data_length n.counts, p)

-- the same members at the counts that the code holds
pub counted-alike : (boxes : Counts → List Box) (r : Index) {c d : Counts} → d ≡ c → Member (boxes d) r → Member (boxes c) r
counted-alike boxes r e m = subst (λ (d : Counts). Member (boxes d) r) e m

-- The figures

pub row_told : (l plan : List ℕ) (N : ℕ) (r : Index) {c : Counts} {s : Sides} → (read l).counts ≡ c
    → s ≡ sides_of (read l) N (plan_entry c plan) r → s ≡ row_figures (read l) N (entries (read l) plan) r
unfolding read sides_of row_figures
row_told l plan N r e q = rw (q, ← e)

pub column-told : (D : Data) (ms : List ℤ) (x : Index) {v : Pair} {charged : Sum} → v ≡ priced_pair D ms x → charged ≡ cap (price D x)
    → record { up = v.up; down = v.down; price = charged; short = net_of v.up (cap 0) (join charged v.down) } ≡ column_figures D ms x
unfolding priced_pair column_figures
column-told D ms x a e = rw (a, e, both-cap (price D x) (priced⁻ D ms x))

-- a column is refused as underpriced where its sums are within the limit and its terms above zero exceed its price and its terms below
underpriced : (a b : Bool) (m n : ℕ) {k : ℕ} → or_else (unless a (ColumnOffScale m)) (unless b (Underpriced n)) ≡ fault (Underpriced k) → (a ≡ true) × (b ≡ false)
unfolding or_else unless
underpriced true true m n e = let z : ◌≡◌ {A = ℕ} 0 1 = cc in absurd (omega arith)
underpriced true false m n e = (refl, refl)
underpriced false b m n e = let z : ◌≡◌ {A = ℕ} 0 1 = cc in absurd (omega arith)

pub short-is : (D : Data) (ms : List ℤ) (i : Index) {n : ℕ} {f : ColumnFigures} → f ≡ column_figures D ms i → column_fault D ms i ≡ fault (Underpriced n)
    → f.short ≡ Ok (priced⁺ D ms i - (price D i + priced⁻ D ms i))
unfolding column_figures column_fault
short-is D ms i q e =
    let u = priced⁺ D ms i in
    let d = price D i + priced⁻ D ms i in
    let t = underpriced (leb u limit && leb (priced⁻ D ms i) limit) (leb u d) (column_number D i) (column_number D i) e in
    let h = leb-true u limit (both (leb u limit) (leb (priced⁻ D ms i) limit) t.0).0 in
    rw q (le-difference u d h (omega (arith, leb-false u d t.1)))

pub entry-told : (l : List ℕ) (t y i j s : ℕ) {r : Range} {least most entry place : ℕ} → place_of (read l).counts (index t y i j s) ≡ place
    → ranged r ≡ range_of t (read l) y i j s → least ≡ r.least → most ≡ r.most → entry ≡ get_or l place 0
    → record { least = least; most = most; entry = entry } ≡ entry_figures (read l) (index t y i j s)
unfolding read entry_figures
entry-told l t y i j s p q a b e =
    rw (a ∙ ap (λ (r : spec.Range). r.least) q, b ∙ ap (λ (r : spec.Range). r.most) q, e, ← p)
