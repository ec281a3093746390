-- A walk that is left at the first fault: what one of its loops knows. Assumes nothing.
use mathlib.Core.Path.{◌≡◌, refl, ◌∙◌}
use Prim.Native.Nat.{ℕ, ◌+◌, ◌≤◌, ◌<◌}
use native.Mathlib.Omega.{arith}
use Rattle.sums.specs.Span.{Fault, fine, upto}
use Rattle.sums.proofs.Spans.{upto_step}
use Rattle.model.specs.declared.Refusal.{Refusal}

-- a loop of the walk after k of its n turns: none was at fault, and `place` is the k-th place
pub record Reached (f : ℕ → Fault Refusal) (p : ℕ → ℕ) (k n place : ℕ) : Type 0 where
  pub few : k ≤ n
  pub so : upto k f ≡ fine
  pub here : place ≡ p k

module _ {f : ℕ → Fault Refusal} {p : ℕ → ℕ} where
  pub begun : {n place : ℕ} → place ≡ p 0 → Reached f p 0 n place
  unfolding upto
  begun e = record { few = omega arith; so = refl; here = e }

  pub turned : {k n m place : ℕ} → Reached f p k n m → k < n → f k ≡ fine → place ≡ p (k + 1) → Reached f p (k + 1) n place
  turned {k} r l e q = record { few = omega arith; so = upto_step k f r.so ∙ e; here = q }

  pub ended : {k n place : ℕ} → Reached f p k n place → n ≤ k → (upto n f ≡ fine) × (place ≡ p n)
  ended {k} {n} r l = let e : k ≡ n = omega arith in (rw (← e) r.so, rw (← e) r.here)
