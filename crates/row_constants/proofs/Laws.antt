-- What the constant of any row cites: the families whose rows have none, and those that have an arm of their own. Assumes nothing.
use mathlib.Core.Path.{◌≡◌, refl, sym, ap, ◌∙◌}
use mathlib.Core.Bool.{Bool, true, false}
use mathlib.Core.List.{List, [], ◌∷◌}
use Prim.Native.Nat.{ℕ, zero, suc, ◌+◌, ◌<◌}
use native.Mathlib.Omega.{arith}
use lib.Dec.{ltb}
use lib.ListN.{get_or}
use Rattle.sums.specs.Sum.{on}
use Rattle.sums.specs.Index.{index}
use Rattle.sums.proofs.Lists.{Alls, at_place, ◌and◌}
use Rattle.model.specs.Data.{Data, after_first_hour, on_min_load_day, is_vre, is_battery}
use Rattle.model.specs.Families.{Equation, equation, equations, empty, out_of_service, family_count}
use Rattle.tables.proofs.Laws.{among, NoneAmong, none-among}
use Rattle.constants.specs.Constants.{constant_of, no_constant, has_constant}
use Rattle.constants.proofs.Laws.{constant-is}

-- Families whose rows have no constant

on-zero : (b : Bool) → on b 0 ≡ 0
on-zero true = refl
on-zero false = refl

under : (b : Bool) → (on b 0 ≡ 0) × (on b 0 ≡ 0)
under b = (on-zero b, on-zero b)

under-both : (a b : Bool) → (on a (on b 0) ≡ 0) × (on a (on b 0) ≡ 0)
under-both a b = rw (on-zero b) (under a)

-- where the flag is off, an equation has no constant
abbrev NoneUnless : Bool → Equation → Type 0
NoneUnless true e = Unit {0}
NoneUnless false e = (e.plus ≡ 0) × (e.minus ≡ 0)

module _ (D : Data) (y i j s : ℕ) where
  each-without : Alls (λ k e. NoneUnless (has_constant k) e) (equations D y i j s)
  unfolding has_constant equation
  each-without =
      tt and tt and tt and tt
      and (refl, refl) and (refl, refl)
      and under (after_first_hour D s) and under (after_first_hour D s) and under (on_min_load_day D s)
      and (refl, refl) and under (is_vre D i)
      and tt and under (out_of_service D y i) and (refl, refl)
      and tt and tt and tt and tt and tt and tt
      and under (is_battery D i) and (refl, refl)
      and under-both (is_battery D i) (after_first_hour D s) and under-both (is_battery D i) (after_first_hour D s)
      and tt
      and (refl, refl) and tt and under (ltb i j)
      and tt

  pub without : (k : ℕ) → k < family_count → has_constant k ≡ false → no_constant ≡ constant_of D (index k y i j s)
  unfolding constant_of
  without k l h =
      let t : NoneUnless false (get_or (equations D y i j s) k empty) = rw h at (at_place (λ k e. NoneUnless (has_constant k) e) (equations D y i j s) empty each-without k l) in
      constant-is (sym t.0) (sym t.1)

-- The dispatcher

-- the families that have an arm of their own
abbrev arms : List ℕ
arms = 0 ∷ 1 ∷ 2 ∷ 3 ∷ 11 ∷ 14 ∷ 15 ∷ 16 ∷ 17 ∷ 18 ∷ 19 ∷ 24 ∷ 26 ∷ []

-- flags that are those of a test, place by place
abbrev flags : (ℕ → Bool) → ℕ → ℕ → List Bool
flags f from zero = []
flags f from (suc n) = f from ∷ flags f (suc from) n

flag_at : (f : ℕ → Bool) (from n : ℕ) (k : ℕ) → k < n → get_or (flags f from n) k false ≡ f (from + k)
flag_at f from zero k h = absurd (omega arith)
flag_at f from (suc n) zero h = let e : from ≡ from + 0 = omega arith in ap f e
flag_at f from (suc n) (suc k) h = let e : suc from + k ≡ from + suc k = omega arith in flag_at f (suc from) n k (omega arith) ∙ ap f e

-- the list of flags is computed from the arms
arms-are : (k : ℕ) → k < family_count → has_constant k ≡ among arms k
unfolding has_constant
arms-are k l = let e : 0 + k ≡ k = omega arith in flag_at (among arms) 0 family_count k l ∙ ap (among arms) e

pub without-arm : (k : ℕ) → k < family_count → NoneAmong (Unit {0}) arms k → has_constant k ≡ false
without-arm k l h = arms-are k l ∙ (none-among k arms h).1
