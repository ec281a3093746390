-- What is proved of the definition, as statements; the proofs are in proofs/.
use Rattle.std.specs.Prelude.{true, false, List, ◌++◌, ◌≡◌, ℕ, ◌+◌, ◌≤◌, take, Err}
use Rattle.model.specs.declared.Refusal.TheVariants.{DataLength}
use Rattle.model.specs.Calls.{issued}
use Rattle.texts.specs.Claims.{bytes, most_good, most_line, has_scal}
use Rattle.text_answers.specs.Earlier.{earlier_certify_text}
use Rattle.text_answers.specs.Format.{certify_text, BindsText}

-- document 01's first case, its lists grown by zeros: one DATA line of 55 numbers, a PLAN line of 14 and a DUAL line of 28
abbrev pub first_data : List ℕ
first_data =
    bytes "DATA 00000001 00000001 00000001 00000001 00000001 00000001 00000001 000003E8 00000001 00000064 00000000 00000000 00000000 00000000 00000000 0000000A 00000002 00000000"
    ++ bytes " 00000000 00000000 000003E8 000003E8 00000000 000003E8 00000000 00000000 00000000 000003E8 000003E8 00000000 00000000 0000C350 00000008 000003E8 00000000 00000064"
    ++ bytes " 00000000 00000000 00000000 00000000 00000000 00000000 00000000 000003E8 00000000 00000000 00000000 00000000 00000000 00000000 00000000 00000000 00000000 00000000 00000000\n"

abbrev pub first_dual : List ℕ
first_dual =
    bytes "DUAL 00000000004C4B40 0000000000000000 0000000000000000 0000000000000000 0000000000000000 0000000000000000 0000000000000000 0000000000000000 0000000000000000"
    ++ bytes " 0000000000000000 0000000000000000 0000000000000000 0000000000000000 0000000000000000 0000000000000000 0000000000000000 0000000000000000 0000000000000000 0000000000000000"
    ++ bytes " 0000000000000000 0000000000000000 0000000000000000 0000000000000000 0000000000000000 0000000000000000 0000000000000000 0000000000000000 0000000000000000\n"

-- its plan in whole MW, with a SCAL line of 1
abbrev pub FirstCase : Type 0
FirstCase =
    certify_text
    (first_data
    ++ (bytes "PLAN 0000000A 00000000 00000000 00000008 00000000 00000000 00000000 00000000 00000000 00000000 00000000 00000000 00000000 00000000\n"
    ++ (bytes "SCAL 00000001\n" ++ first_dual)))
    ≡ issued 40000000000 0

-- its plan in kW, without a SCAL line
abbrev pub FirstCaseInThousandths : Type 0
FirstCaseInThousandths =
    certify_text
    (first_data
    ++ (bytes "PLAN 00002710 00000000 00000000 00001F40 00000000 00000000 00000000 00000000 00000000 00000000 00000000 00000000 00000000 00000000\n"
    ++ first_dual))
    ≡ issued 40000000000000 0

-- an empty input has no line: `R 2 7`
abbrev pub EmptyInput : Type 0
EmptyInput = certify_text (bytes "") ≡ Err (DataLength 7)

-- what stands behind the first 176,142 + 1,093 bytes decides nothing, so a program may keep a buffer of fixed size
abbrev pub FixedBuffer : Type 0
FixedBuffer = (size : ℕ) → most_good + most_line ≤ size → (input : List ℕ) → certify_text (take size input) ≡ certify_text input

-- demand 3 of what the programs answer
abbrev pub Demand3OfTexts : Type 0
Demand3OfTexts = (input : List ℕ) → BindsText input (certify_text input)

-- Request (v)

-- a text with a SCAL line is answered as before
abbrev pub AnsweredAsBefore : Type 0
AnsweredAsBefore = (input : List ℕ) → has_scal input ≡ true → certify_text input ≡ earlier_certify_text input

-- a text without one, sound or not, is answered as the same text with a SCAL line of 1000 behind it
abbrev pub ReadInThousandths : Type 0
ReadInThousandths = (input : List ℕ) → has_scal input ≡ false → certify_text input ≡ certify_text (input ++ bytes "SCAL 000003E8\n")

-- what a caller adds that left the line out and means 1: with it the text is answered as it was before without
abbrev pub KeptByOne : Type 0
KeptByOne = (input : List ℕ) → has_scal input ≡ false → earlier_certify_text input ≡ certify_text (input ++ bytes "SCAL 00000001\n")
