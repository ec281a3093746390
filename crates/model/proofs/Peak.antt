-- The peak is the largest demand of the year and zone.
use Prim.Native.Nat.{ℕ}
use Rattle.sums.proofs.Largest.{largest-upper, largest-reached}
use Rattle.model.specs.Data.{Data, S, demand}
use Rattle.model.specs.Claims.{IsPeak}

pub is-peak : (D : Data) (y z : ℕ) → IsPeak D y z
is-peak D y z = record { highest = largest-upper (S D) (demand D y z); reached = largest-reached (S D) (demand D y z) }
