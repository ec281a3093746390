-- Demand 3 in document 01's words: the bound with its difference, and no cheaper rival plan where the gap is 0.
use mathlib.Core.Path.{◌≡◌, refl, ap, subst}
use mathlib.Core.Bool.{Bool, true, false, cond}
use mathlib.Core.List.{List}
use Prim.Native.Nat.{ℕ, zero, suc, ◌+◌, ◌*◌, ◌-◌, ◌≤◌}
use native.Mathlib.Nat.{mul-add}
use native.Mathlib.Omega.{arith}
use lib.Dec.{ltb, le→leb}
use lib.IntN.{ℤ, pos, negsuc, neg_ℤ, ◌-ℤ◌, ◌*ℤ◌}
use lib.Signed.{◌≤ℤ◌, le_z_yes}
use borrow.Author.Tests.{ltb-false}
use Rattle.model.specs.Data.{read}
use Rattle.model.specs.Columns.{entries}
use Rattle.model.specs.Calls.{certify, cost_of, issued}
use Rattle.model.specs.Rival.{Bounds, Binds, RivalPlan}
use Rattle.model.specs.Claims.{ListedRivals, NoneCheaper}
use Rattle.model.proofs.Demand.{demand3}

-- a number not above zero is at most any natural number
not-above : (n k : ℕ) → neg_ℤ (pos n) ≤ℤ pos k
not-above zero k = le_z_yes (le→leb 0 k (omega arith))
not-above (suc n) k = le_z_yes tt

-- a difference put on the other side
difference : (M c g k : ℕ) → M * c ≤ k + M * g → (pos M *ℤ (pos c -ℤ pos g)) ≤ℤ pos k
difference M c zero k h = le_z_yes (le→leb (M * (c + 0)) k (omega (arith, mul-add M c 0)))
difference M c (suc g) k h = by_sign (ltb c (suc g)) refl
  where
    by_sign : (b : Bool) → ltb c (suc g) ≡ b → (pos M *ℤ cond b (negsuc (suc g - suc c)) (pos (c - suc g))) ≤ℤ pos k
    by_sign true e = not-above (M * suc (suc g - suc c)) k
    by_sign false e =
        let whole : c - suc g + suc g ≡ c = omega (arith, ltb-false c (suc g) e) in
        le_z_yes (le→leb (M * (c - suc g)) k (omega (arith, ap (λ (v : ℕ). M * v) whole, mul-add M (c - suc g) (suc g))))

-- what demand 3 says of a rival plan as a list
bounded-list : (l : List ℕ) (N : ℕ) (plan : List ℕ) (ms : List ℤ) (c g : ℕ) → certify l N plan ms ≡ issued c g
    → (M : ℕ) → 1 ≤ M → (rival : List ℕ) → RivalPlan l M rival → M * c ≤ N * cost_of l rival + M * g
unfolding cost_of
bounded-list l N plan ms c g e M h rival r =
    let bounds : Bounds (read l) N c g = subst (Binds l N) e (demand3 l N plan ms) in
    omega (arith, bounds M (omega arith) (entries (read l) rival) r.meets)

pub listed-rivals : ListedRivals
listed-rivals l N plan ms c g e M h rival r = difference M c g (N * cost_of l rival) (bounded-list l N plan ms c g e M h rival r)

pub none-cheaper : NoneCheaper
none-cheaper l N plan ms c e M h rival r cheaper = omega (arith, bounded-list l N plan ms c 0 e M h rival r)
