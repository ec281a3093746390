-- Laws of reading a text line by line. Assumes nothing.
use mathlib.Core.Bool.{Bool, true, false, false≢true}
use mathlib.Core.List.{List, [], ◌∷◌, ◌++◌, append_assoc}
use mathlib.Core.Logic.{⊎_elim}
use mathlib.Core.Path.{◌≡◌, refl, sym, ◌∙◌}
use Prim.Native.Nat.{ℕ, zero, suc, ◌+◌, ◌≤◌, ◌<◌, min}
use native.Mathlib.Omega.{arith}
use lib.Dec.{eqb}
use lib.ListN.{length, get_or, take, drop, length-append}
use lib.Seq.{take-append_seam, drop-append_seam, get_or-append_seam, take-suc}
use borrow.Author.Tests.{eq-eqb, eqb-true}
use Rattle.capped.proofs.Laws.{le-or-lt}
use Rattle.std.specs.Fn.{Mut, Called, ComputesKey}
use denote.Ref.{Bor}
use Rattle.std.proofs.lemmas.List.Sorted.{answers_always}
use Rattle.std.specs.List.{AllWithin, HoldsAt, IsFirstMatchOrLen}
use Rattle.std.proofs.Common.{Result, Ok, Err}
use Rattle.std.specs.Prelude.{Option, Some, None, ok_or, IsErr, IsErrAnd}
use Rattle.texts.specs.declared.Numbers.{Numbers}
use Rattle.text_reader.specs.declared.Frame.{Frame}
use Rattle.text_reader.specs.Reading.{text_in}
use Rattle.texts.specs.Format.{line_feed, Lists, line, unended, lines, add_line, Text, frame_at, whole, read_lines}
use Rattle.texts.specs.Numbers.{line_length}
use Rattle.texts.proofs.TextLaws.{first-line, no-feed}

-- the first line feed, or the length
line_length-is : (l : List ℕ) (i : ℕ) → AllWithin (λ b. eqb b line_feed ≡ false) l 0 i → (i < length l → HoldsAt (λ b. eqb b line_feed ≡ true) l i) → line_length l ≡ min i (length l)
unfolding line_length
line_length-is [] i none here = omega arith
line_length-is (b ∷ bs) zero none here = rw (here (omega arith) 0) (omega arith)
line_length-is (b ∷ bs) (suc i) none here =
    let rest : line_length bs ≡ min i (length bs) = line_length-is bs i (λ k d h j. none (suc k) d (omega arith) (omega arith)) (λ h d. here (omega arith) d) in
    rw (none 0 0 (omega arith) (omega arith)) (omega (arith, rest))

-- What `split_inclusive` gave at the line feeds: `bytes`, of which `left` is left, a line and its line feed or a last line without one
module _ {F : Type 0} {g : Mut F (Bor ℕ × Unit {0}) Bool} {f f2 : F} (rest bytes left : List ℕ)
    (cut : (rest ≡ bytes ++ left) × ((i : ℕ) × (length bytes ≡ min (i + 1) (length rest)) × ((p : ℕ → Bool) → ComputesKey g p f → ComputesKey g p f2 × IsFirstMatchOrLen p rest i)) × (0 < length rest))
    (feeds : (h : F) (a : Bor ℕ × Unit {0}) (r : Bool) (h2 : F) → Called g h a r h2 → r ≡ eqb a.0.now line_feed) where
  i : ℕ
  i = cut.1.0

  first : IsFirstMatchOrLen (λ b. eqb b line_feed) rest i
  unfolding i
  first = (cut.1.2 (λ b. eqb b line_feed) (answers_always g (λ a r. r ≡ eqb a.0.now line_feed) f feeds)).1

  long : length bytes ≡ min (i + 1) (length rest)
  unfolding i
  long = cut.1.1

  ends : line_length rest ≡ min i (length rest)
  ends = line_length-is rest i first.0 first.1

  seam-length : length rest ≡ length bytes + length left
  seam-length = rw cut.0 (length-append bytes left)

  module _ (l : List ℕ) (feed : bytes ≡ l ++ (line_feed ∷ [])) where
    bytes-length : length bytes ≡ suc (length l)
    bytes-length = rw feed (omega (arith, length-append l (line_feed ∷ [])))

    parted : rest ≡ l ++ (line_feed ∷ left)
    parted = cut.0 ∙ rw feed (append_assoc l (line_feed ∷ []) left)

    feed-at : get_or rest (length l) 0 ≡ line_feed
    feed-at = rw parted (get_or-append_seam l line_feed left 0)

    pub line-cut : lines rest ≡ line l (lines left)
    line-cut = ⊎_elim none some (le-or-lt (length rest) i)
      where
        none : length rest ≤ i → lines rest ≡ line l (lines left)
        none h = absurd (let f = first.0 (length l) 0 (omega arith) (omega (arith, long, bytes-length, seam-length)) in let t = eq-eqb _ line_feed feed-at in false≢true (sym f ∙ t))

        some : i < length rest → lines rest ≡ line l (lines left)
        some h =
            let p : line_length rest ≡ length l = omega (arith, ends, long, bytes-length) in
            let head : take (length l) rest ≡ l = rw parted (take-append_seam l (line_feed ∷ left)) in
            let tail : drop (suc (length l)) rest ≡ left = rw (cut.0, ← bytes-length) (drop-append_seam bytes left) in
            first-line rest (omega (arith, ends)) ∙ rw (p, head, tail)

  pub unended-cut : ((l : List ℕ) → bytes ≡ l ++ (line_feed ∷ []) → ⊥) → lines rest ≡ unended
  unended-cut e = ⊎_elim none some (le-or-lt (length rest) i)
    where
      none : length rest ≤ i → lines rest ≡ unended
      none h = no-feed rest cut.2 (omega (arith, ends))

      some : i < length rest → lines rest ≡ unended
      some h =
          let p : length bytes ≡ suc i = omega (arith, long) in
          let here : get_or rest i 0 ≡ line_feed = eqb-true _ line_feed (first.1 h 0) in
          let all : take (length bytes) rest ≡ bytes = rw cut.0 (take-append_seam bytes left) in
          absurd (e (take i rest) (sym all ∙ rw p (take-suc rest i 0 h ∙ rw here)))

-- Reading on, at the line n, behind the numbers s

module _ (rest : List ℕ) (n : ℕ) (s : Lists) (text : Text) (here : read_lines (lines rest) n s ≡ text) where
  pub ended : length rest ≡ 0 → whole s ≡ text
  unfolding read_lines lines
  ended e = go rest e here
    where
      go : (l : List ℕ) → length l ≡ 0 → read_lines (lines l) n s ≡ text → whole s ≡ text
      go [] f h = h
      go (b ∷ bs) f h = absurd (omega arith)

  pub left-unended : lines rest ≡ unended → frame_at n ≡ text
  unfolding read_lines
  left-unended e = rw e at here

  pub no_line : (l left : List ℕ) → lines rest ≡ line l (lines left) → None ≡ add_line l s → frame_at n ≡ text
  unfolding read_lines
  no_line l left e f = rw (e, ← f) at here

  pub next_line : (l left : List ℕ) (t : Lists) → lines rest ≡ line l (lines left) → Some t ≡ add_line l s → read_lines (lines left) (n + 1) t ≡ text
  unfolding read_lines
  next_line l left t e f = rw (e, ← f) at here

-- The code's answers

pub passed : {A E : Type 0} (o : Option A) {x : A} (e : E) → Ok x ≡ ok_or o e → o ≡ Some x
passed (Some y) e h = cc
passed None e h = absurd cc

pub failed : {A E : Type 0} (o : Option A) (d e : E) → Err d ≡ ok_or o e → (o ≡ None) × (d ≡ e)
failed (Some y) d e h = absurd cc
failed None d e h = (refl, cc)

pub text-frame : (r : Result (Unit {0}) Frame) (n : Numbers) (e : Frame) → IsErr r × IsErrAnd r (λ d. d ≡ e) → text_in r n ≡ frame_at e.line
text-frame (Ok u) n e h = absurd cc
text-frame (Err d) n e h = rw h.1
