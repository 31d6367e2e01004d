-- A sheet that is read, line by line: what its lines hold; and the sheet that is written of entries. Assumes nothing.
use Rattle.std.specs.Prelude.{Option, Some, None}
use mathlib.Core.Path.{◌≡◌, refl, sym, ap, ap₂, subst, ◌∙◌}
use mathlib.Core.List.{List, [], ◌∷◌, ◌++◌, map, append_assoc}
use Prim.Native.Nat.{ℕ, ◌*◌, ◌≤◌}
use native.Mathlib.Nat.{mul-suc}
use native.Mathlib.Omega.{arith}
use lib.ListN.{length, length-append}
use Rattle.notation.specs.Pieces.{Lacks, Each, split_on, separated}
use Rattle.notation.proofs.OptionLaws.{impossible, same_value}
use Rattle.notation.proofs.SeparatedLaws.{separated_split}
use Rattle.sheet_lines.specs.declared.Entry.{Entry}
use Rattle.sheet_lines.specs.Lines.{line_entry, entry_text, entry_line}
use Rattle.sheet_lines.proofs.EntryLaws.{read_holds, holds_lacks, line_is, entry_back, entry_lacks}
use Rattle.sheet_lines.proofs.TextLaws.{line_most}
use Rattle.sheet_answers.specs.Sheets.{before, entries_of, sheet_of, sheet_lines, sheet_text, AllEntries, Spelled}
use Rattle.sheet_answers.proofs.LineLaws.{no_entries, no_lines, after_entries, after_lines}

-- ---- one line after the other

-- a text that is read as entries: no bytes, or a line that holds an entry, a newline, and more
pub data ReadAs : List ℕ → List Entry → Type 0 where
  no_line : ReadAs [] []
  and_line : (line : List ℕ) {rest : List ℕ} {e : Entry} {es : List Entry} → line_entry line ≡ Some e → ReadAs rest es → ReadAs (line ++ 10 ∷ rest) (e ∷ es)

before_says : (o : Option Entry) (os : Option (List Entry)) (es : List Entry) → before o os ≡ Some es
    → (e : Entry) × (fs : List Entry) × (o ≡ Some e) × (os ≡ Some fs) × (es ≡ e ∷ fs)
before_says None os es k = impossible k
before_says (Some e) None es k = impossible k
before_says (Some e) (Some fs) es k = (e, fs, refl, refl, sym (same_value k))

pieces_read : (ps : List (List ℕ)) (es : List Entry) → entries_of ps ≡ Some es → ReadAs (separated 10 ps) es
unfolding entries_of separated
pieces_read [] es k = subst (ReadAs []) (same_value k) no_line
pieces_read ([] ∷ []) es k = subst (ReadAs []) (same_value k) no_line
pieces_read ((x ∷ p) ∷ []) es k = impossible k
pieces_read (p ∷ q ∷ ps) es k =
    let (e, fs, first, rest, is) = before_says (line_entry p) (entries_of (q ∷ ps)) es k in
    subst (ReadAs (separated 10 (p ∷ q ∷ ps))) (sym is) (and_line p first (pieces_read (q ∷ ps) fs rest))

pub sheet_read : (t : List ℕ) (es : List Entry) → sheet_of t ≡ Some es → ReadAs t es
unfolding sheet_of
sheet_read t es k = subst (λ u. ReadAs u es) (separated_split 10 t) (pieces_read (split_on 10 t) es k)

-- no line that holds an entry has a newline
line_lacks : (line : List ℕ) (e : Entry) → line_entry line ≡ Some e → Lacks 10 line
line_lacks line e h = holds_lacks line e (read_holds line e h)

pub read_sheet : {t : List ℕ} {es : List Entry} → ReadAs t es → sheet_of t ≡ Some es
read_sheet no_line = no_entries
read_sheet (and_line line {rest} {e} h r) = after_entries line rest (line_lacks line e h) ∙ ap₂ before h (read_sheet r)

-- every line holds the entry at its place
pub read_lines : {t : List ℕ} {es : List Entry} → ReadAs t es → map line_entry (sheet_lines t) ≡ map Some es
read_lines no_line = ap (map line_entry) no_lines
read_lines (and_line line {rest} {e} h r) = ap (map line_entry) (after_lines line rest (line_lacks line e h)) ∙ ap₂ (λ o os. o ∷ os) h (read_lines r)

-- which keeps the limits
pub read_all : {t : List ℕ} {es : List Entry} → ReadAs t es → AllEntries es
read_all no_line = tt
read_all (and_line line {rest} {e} h r) = (line_is line e h, read_all r)

-- ---- the sheet of entries

pub text_cons : (e : Entry) (es : List Entry) → sheet_text (e ∷ es) ≡ entry_text e ++ 10 ∷ sheet_text es
unfolding sheet_text entry_line
text_cons e es = append_assoc (entry_text e) (10 ∷ []) (sheet_text es)

pub text_read : (es : List Entry) → AllEntries es → ReadAs (sheet_text es) es
unfolding sheet_text
text_read [] a = no_line
text_read (e ∷ es) a = subst (λ u. ReadAs u (e ∷ es)) (sym (text_cons e es)) (and_line (entry_text e) (entry_back e a.0) (text_read es a.1))

pub text_lines : (es : List Entry) → AllEntries es → sheet_lines (sheet_text es) ≡ map entry_text es
unfolding sheet_text
text_lines [] a = no_lines
text_lines (e ∷ es) a =
    ap sheet_lines (text_cons e es) ∙ after_lines (entry_text e) (sheet_text es) (entry_lacks e a.0) ∙ ap (λ ls. entry_text e ∷ ls) (text_lines es a.1)

-- at most 52 bytes a line
pub text_most : (es : List Entry) → AllEntries es → length (sheet_text es) ≤ 52 * length es
unfolding sheet_text
text_most [] a = omega arith
text_most (e ∷ es) a = omega (arith, text_most es a.1, line_most e a.0, length-append (entry_line e) (sheet_text es), mul-suc 52 (length es))

-- ---- lines as they are written

spelled_cons : (line rest : List ℕ) (e : Entry) → line_entry line ≡ Some e → Spelled (line ++ 10 ∷ rest) → (line ≡ entry_text e) × Spelled rest
spelled_cons line rest e h s =
    let w = subst (Each (λ l. (f : Entry) → line_entry l ≡ Some f → l ≡ entry_text f)) (after_lines line rest (line_lacks line e h)) s in
    (w.0 e h, w.1)

-- such a sheet is the one of its entries
pub read_spelled : {t : List ℕ} {es : List Entry} → ReadAs t es → Spelled t → t ≡ sheet_text es
unfolding sheet_text
read_spelled no_line s = refl
read_spelled (and_line line {rest} {e} {es} h r) s =
    let (is, more) = spelled_cons line rest e h s in
    ap₂ (λ l u. l ++ 10 ∷ u) is (read_spelled r more) ∙ sym (text_cons e es)

-- and the one of any entries is such a sheet
pub text_spelled : (es : List Entry) → AllEntries es → Spelled (sheet_text es)
text_spelled es a = subst (Each (λ l. (f : Entry) → line_entry l ≡ Some f → l ≡ entry_text f)) (sym (text_lines es a)) (all es a)
  where
    all : (es : List Entry) → AllEntries es → Each (λ l. (f : Entry) → line_entry l ≡ Some f → l ≡ entry_text f) (map entry_text es)
    all [] a = tt
    all (e ∷ es) a = (λ f h. ap entry_text (same_value (sym (entry_back e a.0) ∙ h)), all es a.1)
