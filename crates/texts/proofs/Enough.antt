-- What stands behind the first bytes of a text decides nothing: the good lines take no more than `most_good` bytes, and a line that is
-- longer than `most_line` is a Frame. Assumes nothing.
use mathlib.Core.Bool.{Bool, true, false, cond, ◌&&◌}
use mathlib.Core.List.{List, [], ◌∷◌}
use mathlib.Core.Logic.{⊎_elim}
use Rattle.std.specs.Prelude.{Option, Some, None, option_map}
use mathlib.Core.Path.{◌≡◌, refl, sym, ap, ◌∙◌}
use Prim.Native.Nat.{ℕ, zero, suc, ◌+◌, ◌*◌, ◌-◌, ◌≤◌, ◌<◌, min}
use native.Mathlib.Nat.{sub-zero, zero-sub, suc-sub-suc}
use native.Mathlib.Omega.{arith}
use lib.Dec.{eqb, leb}
use lib.ListN.{length, take, drop, length-append, length-take, length-drop}
use lib.Seq.{take_all, take-nil, take-take}
use borrow.Author.Tests.{leb-true}
use Rattle.capped.proofs.Laws.{le-or-lt}
use Rattle.texts.specs.declared.lines.Word.{Word}
use Rattle.texts.specs.declared.lines.Word.TheVariants.{Data, Plan, Scal, Dual}
use Rattle.text_numbers.specs.Numbers.{signed}
use Rattle.texts.specs.Format.{line_feed, digits, dual_digits, most_data, most_plan, most_scal, most_dual, plain, count, one_more_number, numbers, after, join, Lists, no_lists, with_data, with_plan, with_scal, with_dual}
use Rattle.texts.specs.Format.{word_of, line_of, add_line, Lines, line, unended, lines, frame_at, next, read_lines, text_of}
use Rattle.texts.specs.Numbers.{line_length}
use Rattle.texts.specs.Claims.{number_line, dual_line, most_good, most_line, FixedBuffer}
use Rattle.texts.proofs.LineLaws.{some_inj, Counted, counted}
use Rattle.texts.proofs.TextLaws.{first-line, no-feed}

-- A good line

module _ {A : Type 0} (value : ℕ → A) (w : ℕ) (l : List ℕ) where
  one-more-length : (o : Option (List A)) (x : Option ℕ) (n : ℕ) (zs : List A) → ((ys : List A) → o ≡ Some ys → length ys ≡ n) → one_more_number value o x ≡ Some zs → length zs ≡ suc n
  unfolding one_more_number
  one-more-length (Some ys) (Some v) n zs h e =
      rw (← some_inj e) (omega (arith, length-append ys (value v ∷ []), h ys refl))
  one-more-length (Some ys) None n zs h e = absurd (cc)
  one-more-length None x n zs h e = absurd (cc)

  numbers-length : (n : ℕ) (zs : List A) → numbers value w l n ≡ Some zs → length zs ≡ n
  unfolding numbers
  numbers-length zero zs e = ap length (sym (some_inj e))
  numbers-length (suc n) zs e = one-more-length (numbers value w l n) _ n zs (numbers-length n) e

  after-length : (xs : List A) (o : Option (List A)) (n : ℕ) (zs : List A) → ((ys : List A) → o ≡ Some ys → length ys ≡ n) → after xs o ≡ Some zs → length zs ≡ length xs + n
  unfolding after
  after-length xs (Some ys) n zs h e = rw (← some_inj e) (omega (arith, length-append xs ys, h ys refl))
  after-length xs None n zs h e = absurd (cc)

  -- n numbers on the line, behind those of xs
  pub record Joins (most : ℕ) (xs zs : List A) : Type 0 where
    pub n : ℕ
    pub one : 1 ≤ n
    pub line : Counted (length l) w n
    pub length-is : length zs ≡ length xs + n
    pub fits : length zs ≤ most

  pub joins : (most : ℕ) (xs zs : List A) → join value w most xs l ≡ Some zs → Joins most xs zs
  unfolding join
  joins most xs zs e = go (leb 1 c) (leb (length xs + c) most) refl refl e
    where
      c : ℕ
      c = count (length l) w

      go : (p q : Bool) → leb 1 c ≡ p → leb (length xs + c) most ≡ q → cond (p && q) (after xs (numbers value w l c)) None ≡ Some zs → Joins most xs zs
      go true true hp hq f =
          let h : 1 ≤ c = leb-true 1 c hp in
          let k : length xs + c ≤ most = leb-true _ most hq in
          let s = after-length xs (numbers value w l c) c zs (numbers-length c) f in
          record { n = c; one = h; line = counted (length l) w c refl (λ z. omega arith); length-is = s; fits = omega arith }
      go true false hp hq f = absurd (cc)
      go false q hp hq f = absurd (cc)

-- The bytes that the numbers of the good lines may have taken

weight : Lists → ℕ
weight s = (length s.of_data + length s.of_plan + length s.of_scal) * number_line + length s.of_dual * dual_line

record Limited (s : Lists) : Type 0 where
  data-few : length s.of_data ≤ most_data
  plan-few : length s.of_plan ≤ most_plan
  scal-few : length s.of_scal ≤ most_scal
  dual-few : length s.of_dual ≤ most_dual

-- a good line: not too long, its bytes within the weight of its numbers
record Grown (l : List ℕ) (s t : Lists) : Type 0 where
  short : length l < most_line
  heavier : length l + 1 + weight s ≤ weight t
  limited : Limited s → Limited t

grown-join : {A : Type 0} (value : ℕ → A) (w most : ℕ) (xs : List A) (l : List ℕ) (with-numbers : List A → Lists) (s t : Lists)
    → ((zs : List A) → Joins value w l most xs zs → Grown l s (with-numbers zs)) → option_map with-numbers (join value w most xs l) ≡ Some t → Grown l s t
grown-join {A} value w most xs l with-numbers s t each e = go (join value w most xs l) refl e
  where
    go : (o : Option (List A)) → join value w most xs l ≡ o → option_map with-numbers o ≡ Some t → Grown l s t
    go None f g = absurd (cc)
    go (Some zs) f g = rw (← some_inj g) (each zs (joins value w l most xs zs f))

grown-word : (v : Option Word) (l : List ℕ) (s t : Lists) → line_of v l s ≡ Some t → Grown l s t
unfolding line_of weight
grown-word (Some Data) l s t e =
    grown-join plain digits most_data s.of_data l (with_data s) s t
    (λ xs j. record {
      short = omega (arith, j.line.few, j.line.long);
      heavier = omega (arith, j.one, j.line.long, j.length-is);
      limited = λ h. record { data-few = j.fits; plan-few = h.plan-few; scal-few = h.scal-few; dual-few = h.dual-few };
    }) e
grown-word (Some Plan) l s t e =
    grown-join plain digits most_plan s.of_plan l (with_plan s) s t
    (λ xs j. record {
      short = omega (arith, j.line.few, j.line.long);
      heavier = omega (arith, j.one, j.line.long, j.length-is);
      limited = λ h. record { data-few = h.data-few; plan-few = j.fits; scal-few = h.scal-few; dual-few = h.dual-few };
    }) e
grown-word (Some Scal) l s t e =
    grown-join plain digits most_scal s.of_scal l (with_scal s) s t
    (λ xs j. record {
      short = omega (arith, j.line.few, j.line.long);
      heavier = omega (arith, j.one, j.line.long, j.length-is);
      limited = λ h. record { data-few = h.data-few; plan-few = h.plan-few; scal-few = j.fits; dual-few = h.dual-few };
    }) e
grown-word (Some Dual) l s t e =
    grown-join signed dual_digits most_dual s.of_dual l (with_dual s) s t
    (λ xs j. record {
      short = omega (arith, j.line.few, j.line.long);
      heavier = omega (arith, j.one, j.line.long, j.length-is);
      limited = λ h. record { data-few = h.data-few; plan-few = h.plan-few; scal-few = h.scal-few; dual-few = j.fits };
    }) e
grown-word None l s t e = absurd (cc)

grown : (l : List ℕ) (s t : Lists) → add_line l s ≡ Some t → Grown l s t
unfolding add_line
grown l s t e = grown-word (word_of l) l s t e

weight-limited : (s : Lists) → Limited s → weight s ≤ most_good
unfolding weight
weight-limited s h = omega (arith, h.data-few, h.plan-few, h.scal-few, h.dual-few)

-- A text and its first n bytes

line_length-take : (n : ℕ) (l : List ℕ) → line_length (take n l) ≡ min n (line_length l)
unfolding line_length
line_length-take zero l = omega arith
line_length-take (suc n) [] = omega arith
line_length-take (suc n) (b ∷ bs) = go (eqb b line_feed) (line_length-take n bs)
  where
    go : (f : Bool) → line_length (take n bs) ≡ min n (line_length bs) → cond f 0 (suc (line_length (take n bs))) ≡ min (suc n) (cond f 0 (suc (line_length bs)))
    go true e = omega arith
    go false e = omega (arith, e)

line_length-le : (l : List ℕ) → line_length l ≤ length l
unfolding line_length
line_length-le [] = omega arith
line_length-le (b ∷ bs) = go (eqb b line_feed) (line_length-le bs)
  where
    go : (f : Bool) → line_length bs ≤ length bs → cond f 0 (suc (line_length bs)) ≤ suc (length bs)
    go true h = omega arith
    go false h = omega (arith, h)

drop-take : (m n : ℕ) (l : List ℕ) → drop m (take n l) ≡ take (n - m) (drop m l)
drop-take zero n l = rw sub-zero
drop-take (suc m) zero l = rw zero-sub
drop-take (suc m) (suc n) [] = sym (take-nil (suc n - suc m))
drop-take (suc m) (suc n) (b ∷ bs) = rw suc-sub-suc (drop-take m n bs)

lines-take : (n : ℕ) (l : List ℕ) → line_length l < n → line_length l < length l
    → lines (take n l) ≡ line (take (line_length l) l) (lines (take (n - suc (line_length l)) (drop (suc (line_length l)) l)))
lines-take n l h k =
    let e : line_length (take n l) ≡ line_length l = line_length-take n l ∙ omega (arith, h) in
    let first = first-line (take n l) (omega (arith, e, h, k, length-take n l)) in
    rw (e, take-take (line_length l) n l (omega (arith, h)), drop-take) at first

unended-take : (n : ℕ) (l : List ℕ) → 0 < n → n ≤ length l → n ≤ line_length l → lines (take n l) ≡ unended
unended-take n l p h k =
    no-feed (take n l) (omega (arith, p, h, length-take n l)) (omega (arith, h, k, line_length-take n l, length-take n l))

-- a line that is too long
long-line : (l : List ℕ) (rest : Lines) (k : ℕ) (s : Lists) → most_line ≤ length l → frame_at k ≡ read_lines (line l rest) k s
unfolding read_lines
long-line l rest k s h = go (add_line l s) refl
  where
    go : (o : Option Lists) → add_line l s ≡ o → frame_at k ≡ next o k (read_lines rest (k + 1))
    go None e = refl
    go (Some t) e = let g = grown l s t e in absurd (omega (arith, h, g.short))

-- the rest l of a text and its first n bytes, after good lines that said s
module _ (n k : ℕ) (l : List ℕ) (s : Lists) (h : Limited s) (enough : most_good + most_line ≤ n + weight s) (more : n < length l) where
  -- no line feed among the first n bytes
  same-unended : n ≤ line_length l → read_lines (lines (take n l)) k s ≡ read_lines (lines l) k s
  unfolding read_lines
  same-unended q = rw (unended-take n l (omega (arith, enough, weight-limited s h)) (omega (arith, more)) q) (⊎_elim ended long (le-or-lt (length l) (line_length l)))
    where
      ended : length l ≤ line_length l → frame_at k ≡ read_lines (lines l) k s
      ended r = rw (no-feed l (omega (arith, more)) (omega (arith, r, line_length-le l)))

      long : line_length l < length l → frame_at k ≡ read_lines (lines l) k s
      long r =
          rw (first-line l r)
          (long-line (take (line_length l) l) (lines (drop (suc (line_length l)) l)) k s (omega (arith, enough, weight-limited s h, q, r, length-take (line_length l) l)))

  -- a whole line among them, and what is left is the same
  same_line : line_length l < n
      → ((m : ℕ) (t : Lists) → Limited t → most_good + most_line ≤ m + weight t
      → read_lines (lines (take m (drop (suc (line_length l)) l))) (k + 1) t ≡ read_lines (lines (drop (suc (line_length l)) l)) (k + 1) t)
      → read_lines (lines (take n l)) k s ≡ read_lines (lines l) k s
  unfolding read_lines
  same_line q rest = rw (lines-take n l q (omega (arith, more, q)), first-line l (omega (arith, more, q))) (go (add_line (take p l) s) refl)
    where
      p : ℕ
      p = line_length l

      go : (o : Option Lists) → add_line (take p l) s ≡ o
          → next o k (read_lines (lines (take (n - suc p) (drop (suc p) l))) (k + 1)) ≡ next o k (read_lines (lines (drop (suc p) l)) (k + 1))
      go None e = refl
      go (Some t) e =
          let g = grown (take p l) s t e in
          rest (n - suc p) t (g.limited h) (omega (arith, enough, g.heavier, more, q, length-take p l))

same_lines : (fuel n k : ℕ) (l : List ℕ) (s : Lists) → length l ≤ fuel → Limited s → most_good + most_line ≤ n + weight s
    → read_lines (lines (take n l)) k s ≡ read_lines (lines l) k s
same_lines zero n k l s f h e = rw (take_all n l (omega (arith, f)))
same_lines (suc fuel) n k l s f h e =
    ⊎_elim (λ (q : length l ≤ n). rw (take_all n l q))
    (λ (q : n < length l).
    ⊎_elim (same-unended n k l s h e q)
    (λ (r : line_length l < n).
    same_line n k l s h e q r
    (λ m t i j. same_lines fuel m (k + 1) (drop (suc (line_length l)) l) t (omega (arith, f, length-drop (suc (line_length l)) l)) i j))
    (le-or-lt n (line_length l)))
    (le-or-lt (length l) n)

no-lists : Limited no_lists
no-lists = record { data-few = omega arith; plan-few = omega arith; scal-few = omega arith; dual-few = omega arith }

pub fixed-buffer : FixedBuffer
unfolding text_of
fixed-buffer size h input = same_lines (length input) size 1 input no_lists (omega arith) no-lists (omega (arith, h))
