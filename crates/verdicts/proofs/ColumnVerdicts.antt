-- The verdict on a column, as the code finds it and as the document says it. Assumes nothing.
use Rattle.model.specs.Calls.{outcome}
use mathlib.Core.Path.{◌≡◌}
use mathlib.Core.Bool.{◌&&◌}
use mathlib.Core.List.{List}
use mathlib.Core.Logic.{⊎_elim}
use Prim.Native.Nat.{ℕ, ◌+◌, ◌≤◌, ◌<◌}
use native.Mathlib.Nat.{eq-or-lt_of_le}
use native.Mathlib.Omega.{arith}
use lib.Dec.{leb}
use lib.IntN.{ℤ}
use borrow.Author.Tests.{le-ltb, lt-ltb, le-leb, lt-leb}
use Rattle.capped.specs.Cap.{limit, cap, times, Sum}
use Rattle.compared.specs.Compared.{order}
use Rattle.capped.proofs.Laws.{le-or-lt, both-cap}
use Rattle.compared.proofs.Laws.{over-cap, lt_order, eq-order, gt-order}
use Rattle.sums.specs.Span.{or_else}
use Rattle.sums.specs.declared.Place.{Place}
use Rattle.sums.specs.Index.{index_of}
use Rattle.model.specs.declared.Refusal.TheVariants.{ColumnOffScale, Underpriced}
use Rattle.model.specs.Data.{Data}
use Rattle.model.specs.Columns.{column_number, column_kind_count}
use Rattle.model.specs.Prices.{price}
use Rattle.model.specs.Tests.{priced⁺, priced⁻, unless, column_fault}
use Rattle.column_prices.specs.Factors.{unit_price, hours_of}
use Rattle.column_prices.proofs.Laws.{column-price}
use Rattle.column_terms.specs.declared.Pair.{Pair}
use Rattle.column_terms.specs.Pairs.{priced_pair}
use Rattle.verdicts.specs.Columns.{verdict_of, ordered}

-- terms above zero up to the limit: whether the column is priced well
judged : (u n column : ℕ) → u ≤ limit → ordered (order (cap u) (cap n)) column ≡ outcome (unless (leb u n) (Underpriced column))
unfolding unless
judged u n column l =
    ⊎_elim
    (λ (k : u ≤ n). rw (le-leb u n k) (⊎_elim (λ (q : u ≡ n). rw (← q, eq-order u l)) (λ (q : u < n). rw (lt_order u n q l)) (eq-or-lt_of_le k)))
    (λ (k : n < u). rw (gt-order u n k (omega arith), lt-leb u n k)) (le-or-lt u n)

two-sums : (u d p column : ℕ)
    → verdict_of (record { up = cap u; down = cap d }) (cap p) column
    ≡ outcome (or_else (unless (leb u limit && leb d limit) (ColumnOffScale column)) (unless (leb u (p + d)) (Underpriced column)))
unfolding verdict_of or_else unless
two-sums u d p column =
    ⊎_elim
    (λ (h : u ≤ limit). ⊎_elim
    (λ (l : d ≤ limit). rw (over-cap u, over-cap d, le-ltb limit u h, le-ltb limit d l, le-leb u limit h, le-leb d limit l, both-cap p d) (judged u (p + d) column h))
    (λ (l : limit < d). rw (over-cap u, over-cap d, le-ltb limit u h, lt-ltb limit d l, le-leb u limit h, lt-leb d limit l)) (le-or-lt d limit))
    (λ (h : limit < u). rw (over-cap u, lt-ltb limit u h, lt-leb u limit h)) (le-or-lt u limit)

-- a column's verdict is the document's test of it
pub verdict-is : (D : Data) (ms : List ℤ) (p : Place) {v : Pair} {unit whole : Sum} {hours column : ℕ} → p.kind < column_kind_count
    → v ≡ priced_pair D ms (index_of p) → unit ≡ cap (unit_price D p.kind p.year p.first p.second) → hours ≡ hours_of D p.kind p.slice → whole ≡ times unit hours
    → column ≡ column_number D (index_of p) → verdict_of v whole column ≡ outcome (column_fault D ms (index_of p))
unfolding priced_pair column_fault
verdict-is D ms p l a e h q n =
    rw (a, column-price D p l e h q, n) (two-sums (priced⁺ D ms (index_of p)) (priced⁻ D ms (index_of p)) (price D (index_of p)) (column_number D (index_of p)))
