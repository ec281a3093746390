-- What `map` of an array makes. Assumes nothing.
use mathlib.Core.Path.{◌≡◌, refl, sym, ap, subst, ◌∙◌}
use mathlib.Core.List.{List, map}
use Prim.Native.Nat.{ℕ, zero, suc, ◌+◌, ◌<◌}
use native.Mathlib.Nat.{add-zero}
use native.Mathlib.Omega.{arith}
use lib.ListN.{length, get_or, length-map}
use lib.Seq.{ext_get_or}
use denote.Param.Members.{Mut}
use Rattle.std.specs.Array.{IsMapOf, MapsFrom}
use Rattle.std.specs.Fn.{Called}
use Rattle.tables.proofs.Laws.{get_or-map-in}

-- where a call leaves the closure as it was and gives h of its element, the array is that of h
module _ {F A B : Type 0} (g : Mut F (A × Unit {0}) B) {f : F} (h : A → B) (xs : List A) (ys : List B) (turn : (x : A) (y : B) (q : F) → Called g f (x, tt) y q → (q ≡ f) × (y ≡ h x)) where
  each_is : (n i : ℕ) (p : F) → p ≡ f → MapsFrom g p xs ys i n → (k : ℕ) → k < n → (d : A) (e : B) → get_or ys (i + k) e ≡ h (get_or xs (i + k) d)
  each_is zero i p u m k l d e = absurd (omega arith)
  each_is (suc n) i p u m zero l d e = rw add-zero (m.4.1 e ∙ (turn m.1 m.2 m.0 (subst (λ w. Called g w (m.1, tt) m.2 m.0) u m.5)).1 ∙ ap h (sym (m.3.1 d)))
  each_is (suc n) i p u m (suc k) l d e =
      subst (λ j. get_or ys j e ≡ h (get_or xs j d)) {x = i + 1 + k} {y = i + suc k} (omega arith)
      (each_is n (i + 1) m.0 (turn m.1 m.2 m.0 (subst (λ w. Called g w (m.1, tt) m.2 m.0) u m.5)).0 m.6 k (omega arith) d e)

  pub map_is : (n : ℕ) (d : A) (e : B) → length xs ≡ n → IsMapOf g f xs ys n → ys ≡ map h xs
  map_is n d e long m =
      ext_get_or e ys (map h xs) (m.long ∙ sym (length-map xs h ∙ long))
      (λ i l. subst (λ j. get_or ys j e ≡ h (get_or xs j d)) {x = 0 + i} {y = i} (omega arith) (each_is n 0 f refl m.each i (omega (arith, l, m.long)) d e)
      ∙ sym (get_or-map-in h xs d e i (omega (arith, l, m.long, long))))
