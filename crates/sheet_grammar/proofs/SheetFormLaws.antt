-- A sheet: what the form has is what is read, the number of its lines, and what is written. Assumes nothing.
use Rattle.std.specs.Prelude.{Some}
use mathlib.Core.Path.{◌≡◌, refl, sym, ap, ap₂, subst, ◌∙◌}
use mathlib.Core.List.{List, [], ◌∷◌, ◌++◌}
use Prim.Native.Nat.{ℕ, suc}
use native.Mathlib.Omega.{arith}
use native.Mathlib.Nat.{le_of_eq}
use borrow.Author.Tests.{eqb-false, ne_eqb}
use lib.ListN.{length}
use Rattle.notation.specs.Pieces.{Lacks, Each, contains, split_on, separated}
use Rattle.notation.proofs.OptionLaws.{same_value}
use Rattle.notation.proofs.SeparatedLaws.{lacks_cons, index_none, separated_split, pieces_lack}
use Rattle.sheet_lines.specs.declared.Entry.{Entry}
use Rattle.sheet_answers.specs.Sheets.{sheet_of, lines_of, sheet_lines, sheet_text, AllEntries}
use Rattle.sheet_answers.proofs.LineLaws.{no_lines, last_lines, after_lines}
use Rattle.sheet_answers.proofs.SheetLaws as read
use Rattle.sheet_answers.proofs.RespellLaws as respell
use Rattle.sheet_grammar.specs.SheetForm.{Sheet, empty, line_ended, NoNewline, no_byte, and_byte, Lines, no_line, one_ended, unfinished, WrittenSheet, no_entry_lem, and_entry}
use Rattle.sheet_grammar.proofs.LineFormLaws.{line_reads, reads_line, line_written, one_line}

-- ---- read

read_as : {t : List ℕ} {es : List Entry} → Sheet t es → read.ReadAs t es
read_as empty = read.no_line
read_as (line_ended {l} f s) = read.and_line l (line_reads f) (read_as s)

pub sheet_reads : {t : List ℕ} {es : List Entry} → Sheet t es → sheet_of t ≡ Some es
sheet_reads s = read.read_sheet (read_as s)

as_read : {t : List ℕ} {es : List Entry} → read.ReadAs t es → Sheet t es
as_read read.no_line = empty
as_read (read.and_line l {e = e} h r) = line_ended (reads_line l e h) (as_read r)

pub reads_sheet : (t : List ℕ) (es : List Entry) → sheet_of t ≡ Some es → Sheet t es
reads_sheet t es e = as_read (read.sheet_read t es e)

pub same_entries : {t : List ℕ} {es fs : List Entry} → Sheet t es → Sheet t fs → es ≡ fs
same_entries p q = same_value (sym (sheet_reads p) ∙ sheet_reads q)

-- ---- how many lines

lacks : {t : List ℕ} → NoNewline t → Lacks 10 t
unfolding contains
lacks no_byte = refl
lacks (and_byte {c} n h) = rw (ne_eqb c 10 n) (lacks h)

has_none : (t : List ℕ) → Lacks 10 t → NoNewline t
has_none [] h = no_byte
has_none (c ∷ t) h = let l = lacks_cons 10 c t h in and_byte (eqb-false c 10 l.0) (has_none t l.1)

pub lines_count : {t : List ℕ} {n : ℕ} → Lines t n → length (sheet_lines t) ≡ n
lines_count no_line = ap length no_lines
lines_count (one_ended {l} {t} h r) = ap length (after_lines l t (lacks h)) ∙ ap suc (lines_count r)
lines_count (unfinished {c} {t} h) = ap length (last_lines (c ∷ t) _ refl (omega arith) (le_of_eq (sym (index_none 10 (c ∷ t) (lacks h)))))

pieces_count : (ps : List (List ℕ)) → Each (Lacks 10) ps → Lines (separated 10 ps) (length (lines_of ps))
unfolding separated lines_of
pieces_count [] h = no_line
pieces_count ([] ∷ []) h = no_line
pieces_count ((x ∷ p) ∷ []) h = unfinished (has_none (x ∷ p) h.0)
pieces_count (p ∷ q ∷ ps) h = one_ended (has_none p h.0) (pieces_count (q ∷ ps) h.1)

pub count_lines : (t : List ℕ) → Lines t (length (sheet_lines t))
unfolding sheet_lines
count_lines t = subst (λ u. Lines u (length (sheet_lines t))) (separated_split 10 t) (pieces_count (split_on 10 t) (pieces_lack 10 t))

-- a sheet has as many lines as entries
pub as_many : {t : List ℕ} {es : List Entry} → Sheet t es → Lines t (length es)
as_many {t} {es} s = subst (Lines t) (respell.as_many t es (sheet_reads s)) (count_lines t)

-- ---- written

pub sheet_written : (es : List Entry) → AllEntries es → WrittenSheet es (sheet_text es)
unfolding sheet_text
sheet_written [] a = no_entry_lem
sheet_written (e ∷ es) a = subst (WrittenSheet (e ∷ es)) (sym (read.text_cons e es)) (and_entry (line_written e a.0) (sheet_written es a.1))

pub one_text : {es : List Entry} {t u : List ℕ} → WrittenSheet es t → WrittenSheet es u → t ≡ u
one_text no_entry_lem no_entry_lem = refl
one_text (and_entry v w) (and_entry x y) = ap₂ (λ l t. l ++ 10 ∷ t) (one_line v x) (one_text w y)
