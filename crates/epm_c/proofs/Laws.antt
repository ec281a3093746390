-- An answer where there is room for its two figures, and what it says of rival plans.
use Rattle.model.specs.declared.Certificate.{Certificate}
use Rattle.std.specs.Prelude.{Result, Ok, Err}
use mathlib.Core.Path.{◌≡◌, refl, sym, ◌∙◌, ap}
use mathlib.Core.List.{List, [], ◌∷◌}
use Prim.Native.Nat.{ℕ, ◌≤◌}
use native.Mathlib.Omega.{arith}
use lib.IntN.{ℤ}
use lib.ListN.{length, get_or}
use borrow.Author.Tests.{le-ltb}
use Rattle.model.specs.declared.Code.{Code}
use Rattle.model.specs.declared.Refusal.{Refusal}
use Rattle.model.specs.declared.Refusal.TheVariants.{Shape, DataLength, Entry, Scale, PlanLength, RowOffScale, Broken, CostOffScale, MultiplierCount, Multiplier, ColumnOffScale, Underpriced, GapOffScale, Board, Frame, Storage}
use Rattle.model.specs.Data.{read}
use Rattle.model.specs.Calls.{code_of, certificate_code, certify}
use Rattle.model.specs.Rival.{Bounds, Binds}
use Rattle.model.proofs.Demand.{demand3}
use Rattle.exports.specs.Figures.{figures}
use Rattle.epm_c.specs.Exports.{status, written, BindsOut}

module _ (out : List ℕ) (room : 2 ≤ length out) where
  pub answered : {last : List ℕ} {r : ℕ} {c d : Code} → c ≡ d → (r ≡ c.number) × (last ≡ figures out c) → (r ≡ status (length out) d) × (last ≡ written out d)
  unfolding status written
  answered {d = d} e q = rw (le-ltb (length out) 2 room) (q.0 ∙ ap (λ (c : Code). c.number) e, q.1 ∙ ap (figures out) e)

-- no refusal has the number 0
refused : (r : Refusal) → (code_of r).number ≡ 0 → ⊥
unfolding code_of
refused (Shape i) e = omega arith
refused (DataLength n) e = omega arith
refused (Entry i) e = omega arith
refused Scale e = omega arith
refused (PlanLength n) e = omega arith
refused (RowOffScale r) e = omega arith
refused (Broken r) e = omega arith
refused CostOffScale e = omega arith
refused (MultiplierCount n) e = omega arith
refused (Multiplier r) e = omega arith
refused (ColumnOffScale c) e = omega arith
refused (Underpriced c) e = omega arith
refused GapOffScale e = omega arith
refused Board e = omega arith
refused (Frame n) e = omega arith
refused (Storage g) e = omega arith

-- an answer of certify by its number and figures
code-binds : (l : List ℕ) (N : ℕ) (a : Result Certificate Refusal) → Binds l N a → (certificate_code a).number ≡ 0
    → Bounds (read l) N (certificate_code a).first (certificate_code a).second
unfolding certificate_code
code-binds l N (Ok a) b e = b
code-binds l N (Err r) b e = absurd (refused r e)

-- the figures are what stands in the first two places
two-figures : (out : List ℕ) (c : Code) → 2 ≤ length out → (get_or (figures out c) 0 0 ≡ c.first) × (get_or (figures out c) 1 0 ≡ c.second)
unfolding figures
two-figures [] c h = absurd (omega arith)
two-figures (a ∷ []) c h = absurd (omega arith)
two-figures (a ∷ b ∷ out) c h = (refl, refl)

-- demand 3 for the figures that are written
pub out-binds : (l : List ℕ) (N : ℕ) (plan : List ℕ) (ms : List ℤ) (out : List ℕ) {r : ℕ} {last : List ℕ} {c : Code} → 2 ≤ length out
    → c ≡ certificate_code (certify l N plan ms) → (r ≡ c.number) × (last ≡ figures out c) → BindsOut l N r last
out-binds l N plan ms out {c = c} room e q z =
    let bound : Bounds (read l) N c.first c.second = rw e (code-binds l N (certify l N plan ms) (demand3 l N plan ms) (ap (λ (k : Code). k.number) (sym e) ∙ sym q.0 ∙ z)) in
    rw (q.1, (two-figures out c room).0, (two-figures out c room).1) bound
