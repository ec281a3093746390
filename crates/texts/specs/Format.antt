-- The text that the certify program reads (document 01, "The certify program"): what its lines say. A text is a list of bytes. The numbers of a line are text_numbers/specs/Numbers.antt.
use Rattle.std.specs.Prelude.{Bool, cond, ◌&&◌, List, [], ◌∷◌, ◌++◌, ℕ, zero, suc, ◌+◌, ◌*◌, ◌-◌, ◌/◌, ◌%◌, eqb, leb, ℤ, length, get_or, Option, Some, None, option_map}
use Rattle.texts.specs.declared.lines.Word.{Word}
use Rattle.texts.specs.declared.lines.Word.TheVariants.{Data, Plan, Scal, Dual}
use Rattle.text_numbers.specs.Numbers.{number_at, signed}

-- the byte behind a line
abbrev pub line_feed : ℕ
line_feed = 10

-- the four words, letter by letter
abbrev pub word_length : ℕ
word_length = 4

abbrev pub data_word : List ℕ
data_word = 68 ∷ 65 ∷ 84 ∷ 65 ∷ []  -- DATA

abbrev pub plan_word : List ℕ
plan_word = 80 ∷ 76 ∷ 65 ∷ 78 ∷ []  -- PLAN

abbrev pub scal_word : List ℕ
scal_word = 83 ∷ 67 ∷ 65 ∷ 76 ∷ []  -- SCAL

abbrev pub dual_word : List ℕ
dual_word = 68 ∷ 85 ∷ 65 ∷ 76 ∷ []  -- DUAL

-- digits of a number: on DATA, PLAN and SCAL lines, on DUAL lines
abbrev pub digits : ℕ
digits = 8

abbrev pub dual_digits : ℕ
dual_digits = 16

-- the most numbers on a line, and on all lines of a word together. SCAL has one number and comes at most once: 1 in all
abbrev pub most_on_line : ℕ
most_on_line = 64

abbrev pub most_data : ℕ
most_data = 4096

abbrev pub most_plan : ℕ
most_plan = 2048

abbrev pub most_scal : ℕ
most_scal = 1

abbrev pub most_dual : ℕ
most_dual = 4096

-- the number itself
abbrev pub plain : ℕ → ℕ
plain n = n

-- Lines. A line is what stands before its line feed

-- how many numbers of w digits, each after one space, a line of this length has behind its word; 0 where that is no whole count of 1 to 64
unfoldable pub count : ℕ → ℕ → ℕ
count len w =
    cond (leb word_length len && (eqb ((len - word_length) % (w + 1)) 0 && leb ((len - word_length) / (w + 1)) most_on_line))
    ((len - word_length) / (w + 1)) 0

-- the numbers so far and one more
unfoldable pub one_more_number : {A : Type 0} → (ℕ → A) → Option (List A) → Option ℕ → Option (List A)
one_more_number value (Some xs) (Some v) = Some (xs ++ (value v ∷ []))
one_more_number value (Some xs) None = None
one_more_number value None x = None

-- the values of the first n numbers of w digits after a line's word
unfoldable pub numbers : {A : Type 0} → (ℕ → A) → ℕ → List ℕ → ℕ → Option (List A)
numbers value w l zero = Some []
numbers value w l (suc n) = one_more_number value (numbers value w l n) (number_at l (word_length + n * (w + 1)) w)

-- the numbers ys behind the numbers xs
unfoldable pub after : {A : Type 0} → List A → Option (List A) → Option (List A)
after xs (Some ys) = Some (xs ++ ys)
after xs None = None

-- the numbers of a word so far, xs, joined with those of its next line, l; none where l is no line of numbers, or they are more than `most` in all
unfoldable pub join : {A : Type 0} → (ℕ → A) → ℕ → ℕ → List A → List ℕ → Option (List A)
join value w most xs l =
    cond (leb 1 (count (length l) w) && leb (length xs + count (length l) w) most) (after xs (numbers value w l (count (length l) w))) None

-- whether a line's first four bytes are those of the word
unfoldable pub opens_with : List ℕ → List ℕ → Bool
opens_with word l =
    leb word_length (length l)
    && (eqb (get_or l 0 0) (get_or word 0 0) && (eqb (get_or l 1 0) (get_or word 1 0) && (eqb (get_or l 2 0) (get_or word 2 0) && eqb (get_or l 3 0) (get_or word 3 0))))

-- the word that a line opens with, or none of the four
unfoldable pub word_of : List ℕ → Option Word
word_of l =
    cond (opens_with data_word l) (Some Data)
    (cond (opens_with plan_word l) (Some Plan) (cond (opens_with scal_word l) (Some Scal) (cond (opens_with dual_word l) (Some Dual) None)))

-- the numbers of each word
pub record Lists : Type 0 where
  pub of_data : List ℕ
  pub of_plan : List ℕ
  pub of_scal : List ℕ
  pub of_dual : List ℤ

abbrev pub no_lists : Lists
no_lists = record { of_data = []; of_plan = []; of_scal = []; of_dual = [] }

-- other numbers of one word
abbrev pub with_data : Lists → List ℕ → Lists
with_data s xs = record { of_data = xs; of_plan = s.of_plan; of_scal = s.of_scal; of_dual = s.of_dual }

abbrev pub with_plan : Lists → List ℕ → Lists
with_plan s xs = record { of_data = s.of_data; of_plan = xs; of_scal = s.of_scal; of_dual = s.of_dual }

abbrev pub with_scal : Lists → List ℕ → Lists
with_scal s xs = record { of_data = s.of_data; of_plan = s.of_plan; of_scal = xs; of_dual = s.of_dual }

abbrev pub with_dual : Lists → List ℤ → Lists
with_dual s xs = record { of_data = s.of_data; of_plan = s.of_plan; of_scal = s.of_scal; of_dual = xs }

-- the numbers so far, s, with those of a line that opens with the word; none where it is another line, which is a Frame
unfoldable pub line_of : Option Word → List ℕ → Lists → Option Lists
line_of (Some Data) l s = option_map (with_data s) (join plain digits most_data s.of_data l)
line_of (Some Plan) l s = option_map (with_plan s) (join plain digits most_plan s.of_plan l)
line_of (Some Scal) l s = option_map (with_scal s) (join plain digits most_scal s.of_scal l)
line_of (Some Dual) l s = option_map (with_dual s) (join signed dual_digits most_dual s.of_dual l)
line_of None l s = None

unfoldable pub add_line : List ℕ → Lists → Option Lists
add_line l s = line_of (word_of l) l s

-- Texts

-- a text line by line: nothing is left; a last line has no line feed; a line, and what follows it
pub data Lines : Type 0 where
  nothing : Lines
  unended : Lines
  line : List ℕ → Lines → Lines

unfoldable pub with_byte : ℕ → Lines → Lines
with_byte b nothing = unended
with_byte b unended = unended
with_byte b (line l rest) = line (b ∷ l) rest

unfoldable pub lines : List ℕ → Lines
lines [] = nothing
lines (b ∷ bs) = cond (eqb b line_feed) (line [] (lines bs)) (with_byte b (lines bs))

-- what a text says: a Frame at the line with this number, or the numbers of each word
pub data Text : Type 0 where
  frame_at : ℕ → Text
  whole : Lists → Text

abbrev pub next : Option Lists → ℕ → (Lists → Text) → Text
next None n rest = frame_at n
next (Some s) n rest = rest s

-- lines from the nth on, after lines that said s
unfoldable pub read_lines : Lines → ℕ → Lists → Text
read_lines nothing n s = whole s
read_lines unended n s = frame_at n
read_lines (line l rest) n s = next (add_line l s) n (read_lines rest (n + 1))

unfoldable pub text_of : List ℕ → Text
text_of input = read_lines (lines input) 1 no_lists
