-- What the range program writes and tells, sentence by sentence, to be held beside 01, "Blocks and ranges". Assumes nothing.
use Rattle.std.specs.Prelude.{◌≡◌, List, [], ◌∷◌, ◌++◌, ℕ, suc, ◌<◌, length}
use Rattle.address.specs.declared.Refusal.{Refusal}
use Rattle.address.specs.Answers.{refusal_number}
use Rattle.notes.specs.Notes.{note_text}
use Rattle.range_text.specs.RangeText.{line_text}
use Rattle.range_text.specs.LineForm.{newline, Free, ended, refused_text, Line, RangeLine}

-- what the program writes for its input
pub data Program : List ℕ → List ℕ → Type 0 where
  -- "empty input writes nothing"
  no_input : Program [] []
  -- "A last line without its newline is read as any other"
  last : {line text : List ℕ} → Free newline line → 0 < length line → Line line text → Program line text
  -- "Each line is answered by itself."
  first : (line : List ℕ) {rest : List ℕ} (text : List ℕ) {more : List ℕ} → Free newline line → Line line text → Program rest more → Program (line ++ newline ∷ rest) (text ++ more)

-- what is told of the lines of a file from line k on: of one that asks for a range nothing, and of a refused one its number and reason
pub data Told (name : List ℕ) : ℕ → List (List ℕ) → List ℕ → Type 0 where
  no_line : {k : ℕ} → Told name k [] []
  answered : {k : ℕ} {line : List ℕ} {lines : List (List ℕ)} {more : List ℕ} → RangeLine line → Told name (suc k) lines more → Told name k (line ∷ lines) more
  refused : {k : ℕ} {line : List ℕ} {lines : List (List ℕ)} {more : List ℕ} (e : Refusal) → line_text line ≡ ended (refused_text e ∷ []) → Told name (suc k) lines more
      → Told name k (line ∷ lines) (note_text name k (refusal_number e) ++ more)

-- every line asks for a range
abbrev pub AllRanges : List (List ℕ) → Type 0
AllRanges [] = Unit {0}
AllRanges (line ∷ lines) = RangeLine line × AllRanges lines
