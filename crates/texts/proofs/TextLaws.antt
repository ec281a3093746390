-- Laws of a text's lines. Assumes nothing.
use mathlib.Core.Bool.{Bool, true, false, cond}
use mathlib.Core.List.{List, [], ◌∷◌}
use mathlib.Core.Path.{◌≡◌, refl, ap}
use Prim.Native.Nat.{ℕ, suc, ◌<◌}
use native.Mathlib.Nat.{le_of_suc-le-suc, suc_inj}
use native.Mathlib.Omega.{arith}
use lib.Dec.{eqb}
use lib.ListN.{length, take, drop}
use Rattle.texts.specs.Format.{line_feed, line, unended, with_byte, lines}
use Rattle.texts.specs.Numbers.{line_length}

-- The lines of a text that starts with a line, or with a line that has no line feed

pub first-line : (l : List ℕ) → line_length l < length l → lines l ≡ line (take (line_length l) l) (lines (drop (suc (line_length l)) l))
unfolding lines line_length with_byte
first-line [] h = absurd (omega arith)
first-line (b ∷ bs) h = go (eqb b line_feed) (first-line bs) h
  where
    go : (f : Bool) → (line_length bs < length bs → lines bs ≡ line (take (line_length bs) bs) (lines (drop (suc (line_length bs)) bs)))
        → cond f 0 (suc (line_length bs)) < suc (length bs)
        → cond f (line [] (lines bs)) (with_byte b (lines bs)) ≡ line (take (cond f 0 (suc (line_length bs))) (b ∷ bs)) (lines (drop (suc (cond f 0 (suc (line_length bs)))) (b ∷ bs)))
    go true more k = refl
    go false more k = ap (with_byte b) (more (le_of_suc-le-suc k))

pub no-feed : (l : List ℕ) → 0 < length l → line_length l ≡ length l → lines l ≡ unended
unfolding lines line_length with_byte
no-feed [] h e = absurd (omega arith)
no-feed (b ∷ bs) h e = go (eqb b line_feed) bs (no-feed bs) e
  where
    go : (f : Bool) (bs : List ℕ) → (0 < length bs → line_length bs ≡ length bs → lines bs ≡ unended)
        → cond f 0 (suc (line_length bs)) ≡ suc (length bs) → cond f (line [] (lines bs)) (with_byte b (lines bs)) ≡ unended
    go true bs more k = absurd (omega arith)
    go false [] more k = refl
    go false (c ∷ cs) more k = rw (more (omega arith) (suc_inj k))
