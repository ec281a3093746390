-- What is proved of the definition, as statements; the proofs are in proofs/.
use Rattle.std.specs.Prelude.{Bool, false, ◌||◌, List, [], ◌∷◌, ◌++◌, ◌≡◌, ℕ, zero, suc, ◌+◌, ◌*◌, ◌≤◌, pos, negsuc, take}
use Prim.Native.Char.{code}
use Prim.Native.String.{String, [] as none, ◌∷◌ as ◌then◌}
use Rattle.texts.specs.Format.{word_length, scal_word, digits, dual_digits, most_on_line, most_data, most_plan, most_scal, most_dual, opens_with, Lines, nothing, unended, line, lines, Text, frame_at, whole, text_of}

-- the bytes of a text in ASCII
abbrev pub bytes : String → List ℕ
bytes none = []
bytes (c then s) = code c ∷ bytes s

abbrev pub says : String → Text
says s = text_of (bytes s)

abbrev pub copies : ℕ → List ℕ → List ℕ
copies zero l = []
copies (suc n) l = l ++ copies n l

-- words in any order and mixed; lines of a word join; two's complement
abbrev pub AnyOrder : Type 0
AnyOrder =
    says "PLAN 00000002 FFFFFFFF\nDUAL FFFFFFFFFFFFFFFE 7FFFFFFFFFFFFFFF\nDATA 0000000A\nPLAN 00000000\nSCAL 000003E8\nDATA 0000000B\n"
    ≡ whole (record { of_data = 10 ∷ 11 ∷ []; of_plan = 2 ∷ 4294967295 ∷ 0 ∷ []; of_scal = 1000 ∷ []; of_dual = negsuc 1 ∷ pos 9223372036854775807 ∷ [] })

-- lines that are a Frame, each at its number
pub record BadLines : Type 0 where
  pub empty_line : says "\n" ≡ frame_at 1
  pub no_line_feed : says "DATA 0000000A\nDATA 0000000A" ≡ frame_at 2
  pub no_number : says "DATA\n" ≡ frame_at 1
  pub other_word : says "DATA 0000000A\nCOST 0000000A\n" ≡ frame_at 2
  pub lower_case : says "DATA 0000000a\n" ≡ frame_at 1
  pub seven_digits : says "DATA 000000A\n" ≡ frame_at 1
  pub eight_dual_digits : says "DUAL 0000000A\n" ≡ frame_at 1
  pub carriage_return : says "DATA 0000000A\r\n" ≡ frame_at 1
  pub trailing_space : says "DATA 0000000A \n" ≡ frame_at 1
  pub double_space : says "DATA  0000000A\n" ≡ frame_at 1
  pub two_scales : says "SCAL 00000001 00000001\n" ≡ frame_at 1
  pub second_scale : says "SCAL 00000001\nDATA 0000000A\nSCAL 00000001\n" ≡ frame_at 3
  pub sixty_five_numbers : text_of (bytes "DATA" ++ (copies 65 (bytes " 00000001") ++ bytes "\n")) ≡ frame_at 1

-- the bytes of a line of one number, with its line feed
abbrev pub number_line : ℕ
number_line = word_length + (1 + digits) + 1

abbrev pub dual_line : ℕ
dual_line = word_length + (1 + dual_digits) + 1

-- the most bytes of all good lines: no number takes more than a line of its own
abbrev pub most_good : ℕ
most_good = (most_data + most_plan + most_scal) * number_line + most_dual * dual_line

-- the most bytes of one good line
abbrev pub most_line : ℕ
most_line = word_length + most_on_line * (1 + dual_digits) + 1

-- what stands behind the first 176,142 + 1,093 bytes decides nothing, so a program may keep a buffer of fixed size
abbrev pub FixedBuffer : Type 0
FixedBuffer = (size : ℕ) → most_good + most_line ≤ size → (input : List ℕ) → text_of (take size input) ≡ text_of input

-- whether one of the lines opens with SCAL. A last line without a line feed is a Frame whatever it opens with, and counts as none
abbrev pub scal_among : Lines → Bool
scal_among nothing = false
scal_among unended = false
scal_among (line l rest) = opens_with scal_word l || scal_among rest

abbrev pub has_scal : List ℕ → Bool
has_scal input = scal_among (lines input)
