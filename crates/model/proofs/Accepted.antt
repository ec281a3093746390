-- A plan that check accepts meets every row.
use Rattle.std.specs.Prelude.{Ok}
use mathlib.Core.Path.{◌≡◌, refl}
use Prim.Native.Nat.{ℕ}
use native.Mathlib.Omega.{arith}
use Rattle.sums.specs.Span.{Fault, fine, fault}
use Rattle.sums.proofs.Spans.{or_else-fine}
use Rattle.model.specs.declared.Refusal.{Refusal}
use Rattle.model.specs.Data.{read}
use Rattle.model.specs.Columns.{entries}
use Rattle.model.specs.Tests.{plan_fault}
use Rattle.model.specs.Calls.{answer, check_fault, check}
use Rattle.model.specs.Claims.{AcceptedMeets}
use Rattle.model.proofs.Demand.{meets-all}

accepted-fine : (f : Fault Refusal) (n c : ℕ) → answer f n ≡ Ok c → f ≡ fine
accepted-fine fine n c e = refl
accepted-fine (fault r) n c e = let z : ◌≡◌ {A = ℕ} 0 1 = cc in absurd (omega arith)

pub accepted-meets : AcceptedMeets
unfolding check check_fault plan_fault
accepted-meets l N plan c e =
    let p = (or_else-fine _ _ (accepted-fine (check_fault l N plan) _ c e)).1 in
    let rows = (or_else-fine _ _ (or_else-fine _ _ (or_else-fine _ _ p).1).1).0 in
    meets-all (read l) N (entries (read l) plan) rows
