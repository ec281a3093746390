-- The law of what is made of `(0..n).map(f)`, turn by turn, where a call leaves f as it was. Assumes nothing.
-- R is one turn of what takes the terms. J k holds of what k terms made: at the start, and after one turn more where it held before. So it holds at the end.
use mathlib.Core.Path.{◌≡◌, refl, sym, ap, subst, ◌∙◌}
use mathlib.Core.List.{List, [], ◌∷◌}
use Prim.Native.Nat.{ℕ, ◌+◌, ◌≤◌, ◌<◌}
use native.Mathlib.Nat.{le_antisymm}
use native.Mathlib.Omega.{arith}
use denote.Param.Members.{Mut}
use Rattle.std.specs.declared.ops.Range.{Range}
use Rattle.std.specs.declared.iter.Map.{Map}
use Rattle.std.specs.Fn.{Called}
use Rattle.std.specs.Iterator.{Yields, Drains}
use Rattle.std.specs.List.{FoldsTo, fold}
use Rattle.std.proofs.iter.Yields.{nat_range_steps}
use Rattle.std.proofs.lemmas.Iterator.{maps}

module _ {F B P : Type 0} (g : Mut F (ℕ × Unit {0}) B) (f : F) (n : ℕ) (R : P → B → P → Type 0) (J : ℕ → P → Type 0) where
  -- one turn more, at the k-th term
  abbrev pub More : Type 0
  More = (k : ℕ) (p : P) (b : B) (q : P) (h : F) → k < n → J k p → Called g f (k, tt) b h → R p b q → (h ≡ f) × J (k + 1) q

  -- what holds with i of the n numbers taken
  record After (s : Map (Range ℕ) F) (p : P) : Type 0 where
    whole : s.iter.end ≡ n
    upto : s.iter.start ≤ n
    kept : s.f ≡ f
    holds : J s.iter.start p

  begun : (s : Map (Range ℕ) F) (p : P) → s.iter ≡ record { start = 0; end = n } → s.f ≡ f → J 0 p → After s p
  begun s p over by first = record {
    whole = ap (λ (w : Range ℕ). w.end) over;
    upto = omega (arith, ap (λ (w : Range ℕ). w.start) over);
    kept = by;
    holds = subst (λ (i : ℕ). J i p) (sym (ap (λ (w : Range ℕ). w.start) over)) first;
  }

  turned : More → (xs : List B) (s t : Map (Range ℕ) F) (p q : P) → After s p → Yields (maps nat_range_steps g) s xs t → FoldsTo R p xs q → After t q
  turned more [] s t p q a y c = subst (λ (w : Map (Range ℕ) F × P). After w.0 w.1) (λ i. (y i, c i)) a
  turned more (x ∷ xs) s t p q a y c =
      let step = y.1.1 in
      let h = more s.iter.start p x c.0 y.0.f (omega (arith, step.1.0, a.whole)) a.holds (subst (λ (w : F × ℕ). Called g w.0 (w.1, tt) x y.0.f) (λ i. (a.kept i, step.1.1 i)) y.1.2) c.1 in
      turned more xs y.0 t c.0 q (record {
        whole = step.0 ∙ a.whole;
        upto = omega (arith, step.1.0, step.1.2, a.whole);
        kept = h.0;
        holds = subst (λ (i : ℕ). J i c.0) (sym step.1.2) h.1;
      }) y.2 c.2

module _ {F B P : Type 0} (g : Mut F (ℕ × Unit {0}) B) {f : F} {n : ℕ} (R : P → B → P → Type 0) (J : ℕ → P → Type 0) {s : Map (Range ℕ) F} {p : P} (xs : List B) (q : P)
    (over : s.iter ≡ record { start = 0; end = n }) (by : s.f ≡ f) (first : J 0 p) where
  pub mapped-along : (t : Map (Range ℕ) F) → Yields (maps nat_range_steps g) s xs t → FoldsTo R p xs q → More g f n R J → (k : ℕ) × (k ≤ n) × J k q
  mapped-along t y c more = let a = turned g f n R J more xs s t p q (begun g f n R J s p over by first) y c in (t.iter.start, a.upto, a.holds)

  pub mapped-done : Drains (maps nat_range_steps g) s xs → FoldsTo R p xs q → More g f n R J → J n q
  mapped-done d c more =
      let a = turned g f n R J more xs s d.1.0 p q (begun g f n R J s p over by first) d.1.1 c in
      subst (λ (i : ℕ). J i q) (le_antisymm a.upto (omega (arith, d.1.2.0.1.0, a.whole))) a.holds

-- `sum` takes them by adding
pub added : (xs : List ℕ) (a : ℕ) → FoldsTo (λ a x b. b ≡ a + x) a xs (fold (λ a x. a + x) a xs)
added [] a = refl
added (x ∷ xs) a = (a + x, refl, added xs (a + x))
