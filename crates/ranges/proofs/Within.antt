-- The range of an entry as the code finds it. Assumes nothing.
use mathlib.Core.Path.{◌≡◌, refl, sym, ◌∙◌}
use mathlib.Core.Bool.{Bool, true, false, not}
use mathlib.Core.List.{List, [], ◌∷◌, map}
use mathlib.Core.Logic.{◌⊎◌, inl, inr}
use Prim.Native.Nat.{ℕ, zero, suc, ◌+◌, ◌-◌, ◌≤◌, ◌<◌}
use native.Mathlib.Omega.{arith}
use lib.Dec.{eqb}
use lib.ListN.{get_or, set, get_or-map}
use lib.Seq.{get_or-set_other}
use Rattle.model.specs.Data as spec
use Rattle.model.specs.Data.{Data, Table, tables, all, either, ◌to◌, most32}
use Rattle.tables.proofs.Laws.{NoneAmong, none-among}
use Rattle.ranges.specs.Ranges.{ranged, fixed, by_index, range_of}

-- a list with its own entries at some places
abbrev patched : (ℕ → spec.Range) → List ℕ → List spec.Range → List spec.Range
patched own [] l = l
patched own (k ∷ ks) l = patched own ks (set l k (own k))

-- at all other places it is the list
unpatched : (R : Type 0) (own : ℕ → spec.Range) (t : ℕ) (ks : List ℕ) → NoneAmong R ks t
    → (l : List spec.Range) → get_or (patched own ks l) t (0 to 0) ≡ get_or l t (0 to 0)
unpatched R own t [] h l = refl
unpatched R own t (k ∷ ks) h l = unpatched (R × (t ≡ k → ⊥)) own t ks h (set l k (own k)) ∙ get_or-set_other l k t (own k) (0 to 0) (none-among t ks h).0.1

-- the tables whose ranges depend on the indices: zone, fuel, GenCap, year, MaxNewCap, TL, line limit, MW per line, line annuity
abbrev pub indexed : List ℕ
indexed = 4 ∷ 5 ∷ 8 ∷ 9 ∷ 10 ∷ 29 ∷ 45 ∷ 46 ∷ 47 ∷ []

-- any other table has its fixed range: the ranges of all tables at an entry are the fixed ones but at these
pub fixed-is : (R : Type 0) (t : ℕ) → NoneAmong R indexed t → (D : Data) (y i j s : ℕ) → ranged (get_or fixed t by_index) ≡ range_of t D y i j s
fixed-is R t n D y i j s =
    let own : ℕ → spec.Range = λ k. range_of k D y i j s in
    sym (get_or-map ranged fixed t by_index)
    ∙ sym (unpatched R own t indexed n (map ranged fixed))
    ∙ get_or-map (λ (x : Table). x.range D y i j s) tables t (all 0 (0 to 0))

-- the tables whose entries are of a pair of zones: TL, and the three of lines, which stand one after another
pub between : (t : ℕ) → (t ≡ 29) ⊎ ((45 ≤ t) × (t < 48)) → (D : Data) (y i j s : ℕ) → either (not (eqb i j)) (0 to most32) (0 to 0) ≡ range_of t D y i j s
between t own D y i j s = turned (eqb i j) ∙ go own
  where
    turned : (b : Bool) → either (not b) (0 to most32) (0 to 0) ≡ either b (0 to 0) (0 to most32)
    turned true = refl
    turned false = refl

    line : (k : ℕ) → k < 3 → either (eqb i j) (0 to 0) (0 to most32) ≡ range_of (45 + k) D y i j s
    line zero h = refl
    line (suc zero) h = refl
    line (suc (suc zero)) h = refl
    line (suc (suc (suc k))) h = absurd (omega arith)

    go : (t ≡ 29) ⊎ ((45 ≤ t) × (t < 48)) → either (eqb i j) (0 to 0) (0 to most32) ≡ range_of t D y i j s
    go (inl e) = rw e refl
    go (inr h) = let e : t ≡ 45 + (t - 45) = omega arith in rw e (line (t - 45) (omega arith))
