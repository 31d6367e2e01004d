-- What is told of a refused sheet (02, Req 09): its number and, on request, the line at fault. A text is the list of its bytes. Assumes nothing.
use Rattle.std.specs.Prelude.{◌≡◌, Bool, true, false, cond, List, [], ◌∷◌, ◌++◌, ℕ, zero, suc, ◌+◌, ◌≤◌, ◌<◌, eqb, length, take, Option, Some, None}
use Rattle.notation.specs.Ascii.{ascii}
use Rattle.notation.specs.Pieces.{split_on}
use Rattle.address.specs.Answers.{holds}
use Rattle.digits.specs.Numerals.{decimal}
use Rattle.notes.specs.Notes.{note_text}
use Rattle.sheet_lines.specs.declared.Entry.{Entry}
use Rattle.sheet_lines.specs.Lines.{line_entry}
use Rattle.sheet_answers.specs.Sheets.{sheet_lines}
use Rattle.sheet_answers.specs.SheetAnswers.{most_bytes, most_lines, sheet_reasons}

-- ---- the line at fault, by the refusal's number

-- how many newlines a text has
unfoldable pub newlines : List ℕ → ℕ
newlines [] = 0
newlines (x ∷ t) = cond (eqb x 10) 1 0 + newlines t

-- 1: the line that has the first byte beyond the limit
unfoldable pub excess_line : List ℕ → ℕ
unfolding newlines
excess_line t = newlines (take most_bytes t) + 1

-- one more where there is an entry
abbrev pub one_more : Option Entry → ℕ → ℕ
one_more None n = 0
one_more (Some e) n = n + 1

-- how many lines stand before the first that is malformed, in a text cut at its newlines; a last line without its newline is malformed
unfoldable pub good_lines : List (List ℕ) → ℕ
unfolding line_entry
good_lines [] = 0
good_lines (p ∷ []) = 0
good_lines (p ∷ q ∷ ps) = one_more (line_entry p) (good_lines (q ∷ ps))

-- 2: the first malformed line
unfoldable pub malformed_line : List ℕ → ℕ
unfolding good_lines split_on
malformed_line t = good_lines (split_on 10 t) + 1

-- The line with which the sheet breaks the rule of that number. The other numbers are of no line.
unfoldable pub fault_line : ℕ → List ℕ → ℕ
unfolding excess_line malformed_line
fault_line n t = cond (eqb n 1) (excess_line t) (cond (eqb n 10) (most_lines + 1) (cond (eqb n 2) (malformed_line t) 0))

-- ---- what the line at fault is claimed to be

-- the first k lines of a sheet: its bytes up to the k-th newline with that, or all where it has fewer
unfoldable pub first_lines : ℕ → List ℕ → List ℕ
first_lines zero t = []
first_lines (suc k) [] = []
first_lines (suc k) (x ∷ t) = x ∷ elim (eqb x 10) [ true ↦ first_lines k t | false ↦ first_lines (suc k) t ]

-- whether a sheet breaks the rule of that number, whatever other rule it breaks
abbrev pub breaks : ℕ → List ℕ → Bool
breaks n t = holds n (sheet_reasons t)

-- The line is the first with which the sheet breaks the rule: with the lines up to it the rule is broken, and with fewer it is kept.
pub record FirstFault (n : ℕ) (t : List ℕ) (line : ℕ) : Type 0 where
  pub some_line : 1 ≤ line
  pub of_sheet : line ≤ length (sheet_lines t)
  pub broken : breaks n (first_lines line t) ≡ true
  pub kept : (k : ℕ) → k < line → breaks n (first_lines k t) ≡ false

-- ---- the note

-- "NAME: refused N" or, where the reason is wanted, "NAME:LINE: refused N: WORDS", on a line
unfoldable pub refused_note : List ℕ → Bool → ℕ → List ℕ → List ℕ
unfolding fault_line note_text ascii
refused_note name explain n t = cond explain (note_text name (fault_line n t) n) (name ++ (ascii ": refused " ++ (decimal n ++ 10 ∷ [])))
