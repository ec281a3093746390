-- SCAL lines: whether a text has read one, and what it says with one behind it. Assumes nothing.
use mathlib.Core.Bool.{Bool, true, false, cond, ◌&&◌, ◌||◌, true≢false, false≢true}
use mathlib.Core.List.{List, [], ◌∷◌, ◌++◌}
use Rattle.std.specs.Prelude.{Option, Some, None, option_map}
use mathlib.Core.Path.{◌≡◌, refl, ◌∙◌}
use Prim.Native.Nat.{ℕ, suc, ◌+◌, ◌*◌, ◌-◌, ◌≤◌, ◌<◌}
use native.Mathlib.Omega.{arith}
use lib.Dec.{eqb, leb}
use lib.ListN.{length, get_or, length-append}
use lib.Seq.{get_or-append-add}
use borrow.Author.Tests.{leb-true, eqb-true, ne_eqb}
use Rattle.texts.specs.declared.lines.Word.{Word}
use Rattle.texts.specs.declared.lines.Word.TheVariants.{Data, Plan, Scal, Dual}
use Rattle.text_numbers.specs.Numbers.{signed, digit, with_digit, digits_at, number_at}
use Rattle.texts.specs.Format.{line_feed, word_length, data_word, plan_word, scal_word, dual_word, digits, dual_digits, most_data, most_plan, most_scal, most_dual, plain, count, one_more_number, numbers, after, join, opens_with, word_of, Lists, no_lists, with_data, with_plan, with_scal, with_dual, line_of, add_line}
use Rattle.texts.specs.Format.{Lines, nothing, unended, line, with_byte, lines, Text, frame_at, whole, next, read_lines, text_of}
use Rattle.texts.specs.Claims.{bytes, scal_among, has_scal}
use Rattle.text_numbers.proofs.NumberLaws.{number-stop}
use Rattle.texts.proofs.LineLaws.{some_inj, Counted, counted, numbers-none}
use Rattle.texts.proofs.Enough.{joins}

-- A line and the SCAL numbers

-- a line that opens with a word has its first letter
first-letter : (w l : List ℕ) → opens_with w l ≡ true → get_or l 0 0 ≡ get_or w 0 0
unfolding opens_with
first-letter w l e = eqb-true _ _ (go (leb word_length (length l)) (eqb (get_or l 0 0) (get_or w 0 0)) _ e)
  where
    go : (a b c : Bool) → a && (b && c) ≡ true → b ≡ true
    go true true c f = refl
    go true false c f = f
    go false b c f = absurd (false≢true f)

other-letter : (w l : List ℕ) → (get_or l 0 0 ≡ get_or w 0 0 → ⊥) → opens_with w l ≡ false
unfolding opens_with
other-letter w l e = rw (ne_eqb _ _ e) (go (leb word_length (length l)))
  where
    go : (a : Bool) → a && false ≡ false
    go true = refl
    go false = refl

scal-word : (l : List ℕ) → opens_with scal_word l ≡ true → word_of l ≡ Some Scal
unfolding word_of
scal-word l e =
    let f : get_or l 0 0 ≡ 83 = first-letter scal_word l e in
    rw (other-letter data_word l (λ g. omega (arith, f, g)), other-letter plan_word l (λ g. omega (arith, f, g)), e)

-- a line of another word adds none
kept_by : {A : Type 0} (with-list : List A → Lists) (s t : Lists) → ((xs : List A) → (with-list xs).of_scal ≡ s.of_scal) → (o : Option (List A)) → option_map with-list o ≡ Some t → t.of_scal ≡ s.of_scal
kept_by with-list s t same (Some xs) e = rw (← some_inj e) (same xs)
kept_by with-list s t same None e = absurd (cc)

-- a line of SCAL adds one or more
grown-by : (l : List ℕ) (s t : Lists) (o : Option (List ℕ)) → join plain digits most_scal s.of_scal l ≡ o → option_map (with_scal s) o ≡ Some t → length s.of_scal < length t.of_scal
grown-by l s t (Some zs) f e = let j = joins plain digits l most_scal s.of_scal zs f in rw (← some_inj e) (omega (arith, j.one, j.length-is))
grown-by l s t None f e = absurd (cc)

module _ (l : List ℕ) (s t : Lists) (good : add_line l s ≡ Some t) where
  scal-kept : opens_with scal_word l ≡ false → t.of_scal ≡ s.of_scal
  unfolding add_line word_of line_of
  scal-kept other = go (opens_with data_word l) (opens_with plan_word l) (opens_with scal_word l) (opens_with dual_word l) other good
    where
      go : (d p c m : Bool) → c ≡ false → line_of (cond d (Some Data) (cond p (Some Plan) (cond c (Some Scal) (cond m (Some Dual) None)))) l s ≡ Some t → t.of_scal ≡ s.of_scal
      go true p c m f g = kept_by (with_data s) s t (λ xs. refl) (join plain digits most_data s.of_data l) g
      go false true c m f g = kept_by (with_plan s) s t (λ xs. refl) (join plain digits most_plan s.of_plan l) g
      go false false true m f g = absurd (true≢false f)
      go false false false true f g = kept_by (with_dual s) s t (λ xs. refl) (join signed dual_digits most_dual s.of_dual l) g
      go false false false false f g = absurd (cc)

  scal-grown : opens_with scal_word l ≡ true → length s.of_scal < length t.of_scal
  unfolding add_line line_of
  scal-grown opens = grown-by l s t _ refl (rw (scal-word l opens) at good)

  scal-no-fewer : length s.of_scal ≤ length t.of_scal
  scal-no-fewer = go (opens_with scal_word l) refl
    where
      go : (b : Bool) → opens_with scal_word l ≡ b → length s.of_scal ≤ length t.of_scal
      go true e = omega (arith, scal-grown e)
      go false e = rw (scal-kept e) (omega arith)

-- A text and the SCAL numbers

-- a text that is no Frame has read a SCAL number
abbrev pub ScalRead : Text → Type 0
ScalRead (frame_at n) = Unit {0}
ScalRead (whole s) = 0 < length s.of_scal

-- it has read none
abbrev pub NoScalRead : Text → Type 0
NoScalRead (frame_at n) = Unit {0}
NoScalRead (whole s) = s.of_scal ≡ []

stays-read : (L : Lines) (n : ℕ) (s : Lists) → 0 < length s.of_scal → ScalRead (read_lines L n s)
unfolding read_lines
stays-read nothing n s h = h
stays-read unended n s h = tt
stays-read (line l rest) n s h = go (add_line l s) refl (stays-read rest (n + 1))
  where
    go : (o : Option Lists) → add_line l s ≡ o → ((t : Lists) → 0 < length t.of_scal → ScalRead (read_lines rest (n + 1) t)) → ScalRead (next o n (read_lines rest (n + 1)))
    go None e more = tt
    go (Some t) e more = more t (omega (arith, h, scal-no-fewer l s t e))

among-read : (L : Lines) (n : ℕ) (s : Lists) → scal_among L ≡ true → ScalRead (read_lines L n s)
unfolding read_lines
among-read nothing n s h = absurd (false≢true h)
among-read unended n s h = tt
among-read (line l rest) n s h = go (add_line l s) refl (opens_with scal_word l) refl h (among-read rest (n + 1))
  where
    go : (o : Option Lists) → add_line l s ≡ o → (b : Bool) → opens_with scal_word l ≡ b → b || scal_among rest ≡ true
        → ((t : Lists) → scal_among rest ≡ true → ScalRead (read_lines rest (n + 1) t)) → ScalRead (next o n (read_lines rest (n + 1)))
    go None e b f g more = tt
    go (Some t) e true f g more = stays-read rest (n + 1) t (omega (arith, scal-grown l s t e f))
    go (Some t) e false f g more = more t g

pub scal-read : (input : List ℕ) → has_scal input ≡ true → ScalRead (text_of input)
unfolding text_of
scal-read input h = among-read (lines input) 1 no_lists h

none-among : (L : Lines) (n : ℕ) (s : Lists) → scal_among L ≡ false → s.of_scal ≡ [] → NoScalRead (read_lines L n s)
unfolding read_lines
none-among nothing n s h k = k
none-among unended n s h k = tt
none-among (line l rest) n s h k = go (add_line l s) refl (opens_with scal_word l) refl h (none-among rest (n + 1))
  where
    go : (o : Option Lists) → add_line l s ≡ o → (b : Bool) → opens_with scal_word l ≡ b → b || scal_among rest ≡ false
        → ((t : Lists) → scal_among rest ≡ false → t.of_scal ≡ [] → NoScalRead (read_lines rest (n + 1) t)) → NoScalRead (next o n (read_lines rest (n + 1)))
    go None e b f g more = tt
    go (Some t) e true f g more = absurd (true≢false g)
    go (Some t) e false f g more = more t g (scal-kept l s t e f ∙ k)

pub no-scal-read : (input : List ℕ) → has_scal input ≡ false → NoScalRead (text_of input)
unfolding text_of
no-scal-read input h = none-among (lines input) 1 no_lists h refl

-- A SCAL line behind a text

-- a SCAL line of one number v, without its line feed
pub record ScalLine (l : List ℕ) (v : ℕ) : Type 0 where
  pub long : length l ≡ word_length + 1 + digits
  pub letter : digit (get_or l 3 0) ≡ None  -- the L
  pub parted : digit (get_or l 4 0) ≡ None  -- the space
  pub ended : lines (l ++ (line_feed ∷ [])) ≡ line l nothing
  pub reads : (s : Lists) → s.of_scal ≡ [] → add_line l s ≡ Some (with_scal s (v ∷ []))

-- what a text says with it
abbrev pub with_scale : ℕ → Text → Text
with_scale v (frame_at n) = frame_at n
with_scale v (whole s) = whole (with_scal s (v ∷ []))

-- a line of which one number is none
module _ {A : Type 0} (value : ℕ → A) (w : ℕ) (l : List ℕ) where
  join-none : (most : ℕ) (xs : List A) → ((n : ℕ) → 1 ≤ n → Counted (length l) w n → numbers value w l n ≡ None) → join value w most xs l ≡ None
  unfolding join after
  join-none most xs bad = go (leb 1 c) (leb (length xs + c) most) refl
    where
      c : ℕ
      c = count (length l) w

      go : (p q : Bool) → leb 1 c ≡ p → cond (p && q) (after xs (numbers value w l c)) None ≡ None
      go true true hp = let h : 1 ≤ c = leb-true _ _ hp in rw (bad c h (counted (length l) w c refl (λ z. omega arith)))
      go true false hp = refl
      go false q hp = refl

module _ {l : List ℕ} {v : ℕ} (scal : ScalLine l v) where
  -- Behind a last line without its line feed it makes no good line of it

  module _ (b : ℕ) (u : List ℕ) where
    -- the last line's bytes, then the SCAL line's
    abbrev whole_line : List ℕ
    whole_line = b ∷ (u ++ l)

    length-is : length whole_line ≡ length u + 14
    length-is = omega (arith, length-append u l, scal.long)

    byte-is : (i : ℕ) → get_or whole_line (suc (length u + i)) 0 ≡ get_or l i 0
    byte-is i = get_or-append-add u l i 0

    -- a number of 8 digits or more of which the eighth would be no digit
    stops : {A : Type 0} (value : ℕ → A) (w i n j : ℕ) → 7 < w → i < n → word_length + i * (w + 1) + 1 + 7 ≡ suc (length u + j) → digit (get_or l j 0) ≡ None → numbers value w whole_line n ≡ None
    stops value w i n j wide h e f =
        numbers-none value w whole_line i n h (number-stop whole_line (word_length + i * (w + 1)) 7 w wide (rw (e, byte-is j) f))

    -- of 8 digits the last number is that of the SCAL line, and the one before it ends in the L
    short-numbers : {A : Type 0} (value : ℕ → A) (n : ℕ) → 1 ≤ n → Counted (length whole_line) digits n → numbers value digits whole_line n ≡ None
    short-numbers value n h c = stops value digits (n - 2) n 3 (omega arith) (omega (arith, c.long, length-is)) (omega (arith, c.long, length-is)) scal.letter

    -- of 16 digits the last number has the space among its digits
    long-numbers : {A : Type 0} (value : ℕ → A) (n : ℕ) → 1 ≤ n → Counted (length whole_line) dual_digits n → numbers value dual_digits whole_line n ≡ None
    long-numbers value n h c = stops value dual_digits (n - 1) n 4 (omega arith) (omega (arith, h)) (omega (arith, h, c.long, length-is)) scal.parted

    no_line : (s : Lists) → add_line whole_line s ≡ None
    unfolding add_line line_of
    no_line s = go (word_of whole_line)
      where
        go : (w : Option Word) → line_of w whole_line s ≡ None
        go (Some Data) = rw (join-none plain digits whole_line most_data s.of_data (short-numbers plain))
        go (Some Plan) = rw (join-none plain digits whole_line most_plan s.of_plan (short-numbers plain))
        go (Some Scal) = rw (join-none plain digits whole_line most_scal s.of_scal (short-numbers plain))
        go (Some Dual) = rw (join-none signed dual_digits whole_line most_dual s.of_dual (long-numbers signed))
        go None = refl

  -- the lines of a text with it: the last of them, or the end of the last
  abbrev Behind : Lines → Lines → Type 0
  Behind nothing t = t ≡ line l nothing
  Behind unended t = (b : ℕ) × ((u : List ℕ) × (t ≡ line (b ∷ (u ++ l)) nothing))
  Behind (line k rest) t = (more : Lines) × ((t ≡ line k more) × Behind rest more)

  behind-byte : (b : ℕ) (L t : Lines) → Behind L t → Behind (with_byte b L) (with_byte b t)
  unfolding with_byte
  behind-byte b nothing t h = (b, ([], rw h))
  behind-byte b unended t h = (b, (h.0 ∷ h.1.0, rw h.1.1))
  behind-byte b (line k rest) t h = (h.0, (rw h.1.0, h.1.1))

  behind : (input : List ℕ) → Behind (lines input) (lines (input ++ (l ++ (line_feed ∷ []))))
  unfolding lines
  behind [] = scal.ended
  behind (b ∷ bs) = go (eqb b line_feed) (behind bs)
    where
      tail : List ℕ
      tail = bs ++ (l ++ (line_feed ∷ []))

      go : (f : Bool) → Behind (lines bs) (lines tail) → Behind (cond f (line [] (lines bs)) (with_byte b (lines bs))) (cond f (line [] (lines tail)) (with_byte b (lines tail)))
      go true h = (lines tail, (refl, h))
      go false h = behind-byte b (lines bs) (lines tail) h

  read_behind : (L t : Lines) (n : ℕ) (s : Lists) → Behind L t → scal_among L ≡ false → s.of_scal ≡ [] → read_lines t n s ≡ with_scale v (read_lines L n s)
  unfolding read_lines
  read_behind nothing t n s h a k = rw h (rw (scal.reads s k))
  read_behind unended t n s h a k = rw (h.1.1, no_line h.0 h.1.0 s)
  read_behind (line k rest) t n s h a e = rw h.1.0 (go (add_line k s) refl (opens_with scal_word k) refl a (λ r. read_behind rest h.0 (n + 1) r h.1.1))
    where
      go : (o : Option Lists) → add_line k s ≡ o → (b : Bool) → opens_with scal_word k ≡ b → b || scal_among rest ≡ false
          → ((r : Lists) → scal_among rest ≡ false → r.of_scal ≡ [] → read_lines h.0 (n + 1) r ≡ with_scale v (read_lines rest (n + 1) r))
          → next o n (read_lines h.0 (n + 1)) ≡ with_scale v (next o n (read_lines rest (n + 1)))
      go None f b g i more = refl
      go (Some r) f true g i more = absurd (true≢false i)
      go (Some r) f false g i more = more r i (scal-kept k s r f g ∙ e)

  pub scale-behind : (input : List ℕ) → has_scal input ≡ false → text_of (input ++ (l ++ (line_feed ∷ []))) ≡ with_scale v (text_of input)
  unfolding text_of
  scale-behind input h = read_behind (lines input) _ 1 no_lists (behind input) h refl

-- The lines of N = 1000 and N = 1

pub scal-of-1000 : ScalLine (bytes "SCAL 000003E8") 1000
unfolding digit with_digit digits_at number_at count one_more_number numbers after join opens_with word_of line_of add_line with_byte lines
scal-of-1000 = record { long = refl; letter = refl; parted = refl; ended = refl; reads = λ s e. rw e }

pub scal-of-1 : ScalLine (bytes "SCAL 00000001") 1
unfolding digit with_digit digits_at number_at count one_more_number numbers after join opens_with word_of line_of add_line with_byte lines
scal-of-1 = record { long = refl; letter = refl; parted = refl; ended = refl; reads = λ s e. rw e }
