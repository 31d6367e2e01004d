-- What is claimed of the note on a refused sheet. Assumes nothing.
use Rattle.std.specs.Prelude.{None}
use mathlib.Core.Path.{◌≡◌, refl}
use mathlib.Core.Logic.{◌↔◌}
use mathlib.Core.Bool.{Bool, true, false}
use mathlib.Core.List.{List, [], ◌∷◌, ◌++◌}
use Prim.Native.Nat.{ℕ, suc, ◌+◌, ◌≤◌, ◌<◌}
use lib.ListN.{length, take}
use Rattle.notation.specs.Ascii.{ascii}
use Rattle.notation.specs.Pieces.{Lacks}
use Rattle.digits.specs.Numerals.{all_digits, digit_of, numeral}
use Rattle.words.specs.Words.{refusal_words}
use Rattle.notes.specs.Notes.{note_room}
use Rattle.sheet_answers.specs.Sheets.{sheet_of, sheet_lines}
use Rattle.sheet_answers.specs.SheetAnswers.{most_bytes, most_lines, sheet_refusal}
use Rattle.sheet_notes.specs.SheetNotes.{fault_line, first_lines, breaks, FirstFault, refused_note}
use Rattle.sheet_notes.proofs.BeginningLaws as beginnings
use Rattle.sheet_notes.proofs.FaultLaws as faults
use Rattle.sheet_notes.proofs.NoteLaws as notes

-- ---- the first lines of a sheet

-- What they are, line by line: these three leave nothing open.
pub no_line : (t : List ℕ) → first_lines 0 t ≡ []
no_line = beginnings.first_none

pub a_line_more : (k : ℕ) (p t : List ℕ) → Lacks 10 p → first_lines (suc k) (p ++ 10 ∷ t) ≡ p ++ 10 ∷ first_lines k t
a_line_more = beginnings.first_line

pub last_line : (k : ℕ) (p : List ℕ) → Lacks 10 p → first_lines (suc k) p ≡ p
last_line = beginnings.first_unfinished

-- ---- the line at fault

-- What breaks a rule: more than 65,536 bytes, more than 1,024 lines, or a malformed line.
pub breaks_1_exactly : (t : List ℕ) → (breaks 1 t ≡ true) ↔ (most_bytes < length t)
breaks_1_exactly = faults.breaks_1_exactly

pub breaks_10_exactly : (t : List ℕ) → (breaks 10 t ≡ true) ↔ (most_lines < length (sheet_lines t))
breaks_10_exactly = faults.breaks_10_exactly

pub breaks_2_exactly : (t : List ℕ) → (breaks 2 t ≡ true) ↔ (sheet_of t ≡ None)
breaks_2_exactly = faults.breaks_2_exactly

-- The line that is told of a refused sheet is the first with which the sheet breaks the rule of its number, a line of the sheet,
pub first_fault : (t : List ℕ) → 0 < sheet_refusal t → FirstFault (sheet_refusal t) t (fault_line (sheet_refusal t) t)
first_fault t h = faults.first_fault (sheet_refusal t) t (faults.refused_breaks t h)

-- and no other line is.
pub one_fault : {n : ℕ} {t : List ℕ} {a b : ℕ} → FirstFault n t a → FirstFault n t b → a ≡ b
one_fault = faults.one_fault

-- Of each rule that a sheet breaks there is such a line, whichever refuses it.
pub any_fault : (n : ℕ) (t : List ℕ) → breaks n t ≡ true → FirstFault n t (fault_line n t)
any_fault = faults.first_fault

-- ---- a sheet that is too long

-- Only the first 65,537 bytes matter, for the number and for the note, as for the answer (`first_bytes` of `sheet_answers`). So no more has to be read.
pub front_refusal : (t : List ℕ) → sheet_refusal (take (most_bytes + 1) t) ≡ sheet_refusal t
front_refusal = faults.front_refusal

pub front_note : (name : List ℕ) (explain : Bool) (t : List ℕ)
    → refused_note name explain (sheet_refusal t) (take (most_bytes + 1) t) ≡ refused_note name explain (sheet_refusal t) t
front_note = faults.front_note

-- ---- the note

-- No note is longer than the room for one,
pub refused_most : (name : List ℕ) (explain : Bool) (n : ℕ) (t : List ℕ) → length (refused_note name explain n t) ≤ note_room name
refused_most = notes.refused_most

-- and it tells the refusal's number and, with the reason, the line.
module _ (name : List ℕ) (n n' : ℕ) (h : n < 1000) (h' : n' < 1000) (t t' : List ℕ) where
  pub one_number : refused_note name false n t ≡ refused_note name false n' t' → n ≡ n'
  one_number = notes.one_number name n n' h h' t t'

  pub one_line : fault_line n t < 18446744073709551616 → fault_line n' t' < 18446744073709551616 → refused_note name true n t ≡ refused_note name true n' t'
      → (fault_line n t ≡ fault_line n' t') × (n ≡ n')
  one_line = notes.one_line name n n' h h' t t'

-- ---- examples

-- An unfinished line behind a good one is the second line; an empty line is malformed.
pub second_line : fault_line 2 (ascii "::,1,0" ++ 10 ∷ ascii "::,1,0") ≡ 2
unfolding fault_line ascii all_digits digit_of
second_line = refl

pub empty_line : fault_line 2 (10 ∷ []) ≡ 1
unfolding fault_line
empty_line = refl

pub note_of_2 : refused_note (ascii "june.csv") false 2 (ascii "x") ≡ ascii "june.csv: refused 2" ++ 10 ∷ []
unfolding refused_note ascii numeral
note_of_2 = refl

pub explained_1 : refused_note (ascii "june.csv") true 1 [] ≡ ascii "june.csv:1: refused 1: the text is longer than the call takes" ++ 10 ∷ []
unfolding refused_note ascii numeral refusal_words
explained_1 = refl

pub explained_2 : refused_note (ascii "june.csv") true 2 (10 ∷ []) ≡ ascii "june.csv:1: refused 2: the text or the bytes are not of the form asked for" ++ 10 ∷ []
unfolding refused_note ascii numeral refusal_words
explained_2 = refl

pub explained_10 : refused_note (ascii "(standard input)") true 10 [] ≡ ascii "(standard input):1025: refused 10: there are more entries than the call takes" ++ 10 ∷ []
unfolding refused_note ascii numeral refusal_words
explained_10 = refl
