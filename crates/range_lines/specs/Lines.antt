-- The lines of an input of the range program, and what is written for them (01, "Blocks and ranges"). Assumes nothing.
use Rattle.std.specs.Prelude.{Bool, false, cond, not, ◌&&◌, ◌||◌, ℕ, suc, min, eqb}
use mathlib.Core.List.{List, [], ◌∷◌, ◌++◌, flatten, map}
use Rattle.notation.specs.Pieces.{split_on}
use Rattle.notes.specs.Notes.{note_text}
use Rattle.range_text.specs.RangeText.{LineAnswer, answer_line, line_text}

-- ---- the lines

-- those among the pieces between newlines: "A last line without its newline is read as any other", and no bytes are no line
unfoldable pub lines_among : List (List ℕ) → List (List ℕ)
lines_among [] = []
lines_among ([] ∷ []) = []
lines_among ((x ∷ p) ∷ []) = (x ∷ p) ∷ []
lines_among (p ∷ q ∷ ps) = p ∷ lines_among (q ∷ ps)

-- those of an input, each without its newline
unfoldable pub lines_of : List ℕ → List (List ℕ)
unfolding lines_among split_on
lines_of input = lines_among (split_on 10 input)

-- "Each line is answered by itself": what the program writes
unfoldable pub program_text : List ℕ → List ℕ
unfolding flatten lines_of
program_text input = flatten (map line_text (lines_of input))

-- ---- what is told beside the answers

-- the number of the line behind line k: numbers of lines have 64 bits, and stop at the last of them
abbrev pub next_line : ℕ → ℕ
next_line k = min (suc k) 18446744073709551615

-- what is told of line k of a file that is refused by n, or not at all, where notes are wanted
unfoldable pub told_of : Bool → List ℕ → ℕ → ℕ → List ℕ
unfolding note_text
told_of explain name k n = cond (explain && not (eqb n 0)) (note_text name k n) []

-- the answers to lines, what is told of them, and whether any of them is refused
pub record Report : Type 0 where
  pub text : List ℕ
  pub notes : List ℕ
  pub refused : Bool

-- of no lines, and of lines behind others
abbrev pub silence : Report
silence = record { text = []; notes = []; refused = false }

abbrev pub followed : Report → Report → Report
followed a b = record { text = a.text ++ b.text; notes = a.notes ++ b.notes; refused = a.refused || b.refused }

-- of line k
abbrev pub line_report : Bool → List ℕ → ℕ → LineAnswer → Report
line_report explain name k a = record { text = a.text; notes = told_of explain name k a.number; refused = not (eqb a.number 0) }

-- of lines from line k on
unfoldable pub report : Bool → List ℕ → ℕ → List (List ℕ) → Report
unfolding told_of
report explain name k [] = silence
report explain name k (l ∷ ls) = followed (line_report explain name k (answer_line l)) (report explain name (next_line k) ls)
