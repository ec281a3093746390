-- What the functions of the families cite: a constant from the answers of the calls that make it. Assumes nothing.
use mathlib.Core.Path.{◌≡◌}
use Prim.Native.Nat.{ℕ}
use Rattle.constants.specs.declared.Constant.{Constant}

pub constant-is : {a t A T : ℕ} → a ≡ A → t ≡ T → ◌≡◌ {A = Constant} (record { adds = a; takes = t }) (record { adds = A; takes = T })
constant-is e h = rw (e, h)
