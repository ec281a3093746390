-- What is said of an answer of certify, as bytes: one sentence, without its line feed.
use Rattle.std.specs.Prelude.{List, [], ◌∷◌, ◌++◌, ℕ, ℤ, length, Result, Ok, Err}
use Rattle.model.specs.declared.Refusal.{Refusal}
use Rattle.model.specs.declared.Refusal.TheVariants.{Shape, DataLength, Entry, Scale, PlanLength, RowOffScale, Broken, CostOffScale, MultiplierCount, Multiplier, ColumnOffScale, Underpriced, GapOffScale, Board, Frame, Storage}
use Rattle.model.specs.declared.Certificate.{Certificate}
use Rattle.model.specs.Data.{read}
use Rattle.model.specs.Columns.{entries}
use Rattle.model.specs.Calls.{code_of}
use Rattle.texts.specs.Claims.{bytes}
use Rattle.writer.specs.Names.{name_at}
use Rattle.sentences.specs.Names.{listed}
use Rattle.sentences.specs.Sentences.{length_words, shape_words, out_of_range_words, storage_words, scale_words, off_scale_words, broken_words, multiplier_words, column_off_scale_words, underpriced_words}
use Rattle.plain_words.specs.Plain.{frame_words, accepted_words}

-- the words of the refusals, by number; there is no refusal 0
abbrev pub refusal_names : List (List ℕ)
refusal_names = listed ("" ∷ "Shape" ∷ "Data length" ∷ "Entry" ∷ "Scale" ∷ "Plan length" ∷ "Row off scale" ∷ "Broken" ∷ "Cost off scale" ∷ "Multiplier count" ∷ "Multiplier" ∷ "Column off scale" ∷ "Underpriced" ∷ "Gap off scale" ∷ "Board" ∷ "Frame" ∷ "Storage" ∷ [])

-- The sentence

module _ (l : List ℕ) (N : ℕ) (plan : List ℕ) (ms : List ℤ) where
  -- the place of a refusal, and its figures; certify never answers 14 (`refused-asked` in crates/explanations/proofs/Refused.antt)
  unfoldable pub body_words : Refusal → List ℕ
  body_words (Shape i) = shape_words l i
  body_words (DataLength n) = length_words (bytes "DATA") (length l) n
  body_words (Entry n) = out_of_range_words (read l) n
  body_words Scale = scale_words N
  body_words (PlanLength n) = length_words (bytes "PLAN") (length plan) n
  body_words (RowOffScale n) = off_scale_words (read l) N (entries (read l) plan) n
  body_words (Broken n) = broken_words (read l) N (entries (read l) plan) n
  body_words CostOffScale = bytes "the cost is more than 2^62 - 1"
  body_words (MultiplierCount n) = length_words (bytes "DUAL") (length ms) n
  body_words (Multiplier n) = multiplier_words (read l) ms n
  body_words (ColumnOffScale n) = column_off_scale_words (read l) ms n
  body_words (Underpriced n) = underpriced_words (read l) ms n
  body_words GapOffScale = bytes "a sum of the terms N*m*k is more than 2^62 - 1"
  body_words Board = bytes "the year is none of the plan's, or the board has too few places"
  body_words (Frame n) = frame_words n
  body_words (Storage g) = storage_words g

  -- a refusal's word, then its place
  unfoldable pub refused_words : Refusal → List ℕ
  refused_words r = name_at refusal_names (code_of r).number ++ (bytes ": " ++ body_words r)

  unfoldable pub sentence : Result Certificate Refusal → List ℕ
  sentence (Ok certificate) = accepted_words certificate.cost certificate.gap
  sentence (Err r) = refused_words r
