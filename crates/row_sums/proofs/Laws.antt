-- What the functions of several crates of rows cite: a row's two sums from the answers of the calls that make them. A law
-- takes the call's answer and the equations of its arguments, and gives the sum of the document's numbers. Assumes nothing.
use mathlib.Core.Path.{◌≡◌, refl, ◌∙◌}
use Prim.Native.Nat.{ℕ, ◌+◌, ◌*◌, ◌-◌}
use native.Mathlib.Nat.{add-zero, mul-zero, sub_self}
use Rattle.capped.specs.Cap.{cap, plus, both, Sum}
use Rattle.capped.proofs.Laws.{plus-cap, both-cap}
use Rattle.terms.proofs.Laws.{plus-on}
use Rattle.constants.specs.declared.Constant.{Constant}
use Rattle.row_sums.specs.declared.Sides.{Sides}
use Rattle.row_sums.specs.Sides.{sides, sides_with}

-- Sums

pub product_is : {s : Sum} {a b u v : ℕ} → s ≡ cap (a * b) → a ≡ u → b ≡ v → s ≡ cap (u * v)
product_is e p q = rw (← p, ← q) e

pub plus-is : {s t : Sum} {a b u v : ℕ} (m : ℕ) → t ≡ plus s (a * b) → s ≡ cap m → a ≡ u → b ≡ v → t ≡ cap (m + u * v)
plus-is {u = u} {v = v} m e h p q = e ∙ rw (h, p, q) (plus-cap m (u * v))

pub join_is : {r s t : Sum} (m n : ℕ) → r ≡ both s t → s ≡ cap m → t ≡ cap n → r ≡ cap (m + n)
join_is m n e h k = e ∙ rw (h, k) (both-cap m n)

-- A row's two sums, without a constant, with one, and with a limit that alone stands against them

pub two-sums : (u v : ℕ) {a b : Sum} → a ≡ cap u → b ≡ cap v → ◌≡◌ {A = Sides} (record { above = a; below = b }) (sides u v)
two-sums u v h k = rw (h, k)

module _ (N u v : ℕ) {r : Sides} where
  pub plain : r ≡ sides u v → r ≡ sides (u + N * (0 - 0)) (v + N * (0 - 0))
  plain e = e ∙ rw (mul-zero, add-zero u, add-zero v)

  -- under a test the constant of such a row is two numbers that are the same
  pub plain-under : (k : ℕ) → r ≡ sides u v → r ≡ sides (u + N * (k - k)) (v + N * (k - k))
  plain-under k e = rw (sub_self k) (plain e)

  pub constant : {a b : Sum} {k K : Constant} → r ≡ sides_with a b N k → k ≡ K → a ≡ cap u → b ≡ cap v
      → r ≡ sides (u + N * (K.adds - K.takes)) (v + N * (K.takes - K.adds))
  unfolding sides_with
  constant e q h k = e ∙ rw (q, h, k, plus-cap u, plus-cap v)

pub limit : (N v : ℕ) {r : Sides} {b : Sum} {k K : Constant} → r ≡ sides_with (cap 0) b N k → k ≡ K → b ≡ cap v
    → r ≡ sides (0 + N * (K.adds - K.takes)) (v + N * (K.takes - K.adds))
limit N v e q h = constant N 0 v e q refl h

-- for a `search` of a row's two sums: the sums of exact numbers
pub ruleset exact_sums = (plus-cap, both-cap, plus-on)
