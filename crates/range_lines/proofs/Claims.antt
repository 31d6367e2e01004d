-- What is claimed of the range program: line after line, wherever the input is cut and however long the buffers are (01, "Blocks and ranges").
-- Assumes nothing.
use mathlib.Core.Path.{◌≡◌, refl, sym, ap, ap₂, subst, ◌∙◌}
use mathlib.Core.Logic.{◌⊎◌, inl, inr, ◌↔◌}
use mathlib.Core.Bool.{Bool, true, false}
use mathlib.Core.List.{List, [], ◌∷◌, ◌++◌, append_assoc, append-nil, flatten, map}
use Prim.Native.Nat.{ℕ, zero, suc, ◌+◌, ◌≤◌, ◌<◌}
use native.Mathlib.Omega.{arith}
use lib.ListN.{length, take, drop, length-append}
use Rattle.notation.specs.Pieces.{Lacks}
use Rattle.output.proofs.PlacingLaws.{puts_behind}
use Rattle.range_text.specs.RangeText.{line_text}
use Rattle.range_text.specs.LineForm.{newline, AllFree, ended, RangeLine, FewestLines}
use Rattle.range_text.proofs.Claims as range
use Rattle.range_text.proofs.LineFormLaws.{free_lacks, first_byte}
use Rattle.range_text.proofs.LineReadLaws.{line_free}
use Rattle.range_lines.specs.declared.Reader.{Reader}
use Rattle.range_lines.specs.declared.Fed.{Fed}
use Rattle.range_lines.specs.Lines.{lines_of, program_text, Report, followed, report}
use Rattle.range_lines.specs.Feeding.{place_of, at_start, fed, Feeds, Session, Called}
use Rattle.range_lines.specs.ProgramForm.{Program, no_input, last, first, Told, AllRanges}
use Rattle.range_lines.proofs.LineLaws as lines
use Rattle.range_lines.proofs.SessionLaws as session
use Rattle.range_lines.proofs.ReportLaws as reports

-- ---- lines

-- "empty input writes nothing"
pub empty_input : program_text [] ≡ []
unfolding program_text
empty_input = refl

-- "Each line is answered by itself": a line with its newline, and the input behind it.
pub line_alone : (line rest : List ℕ) → Lacks 10 line → program_text (line ++ 10 ∷ rest) ≡ line_text line ++ program_text rest
unfolding program_text
line_alone line rest l = ap (λ ls. flatten (map line_text ls)) (lines.line_ended line rest l)

-- "A last line without its newline is read as any other": the newline behind it changes nothing.
pub last_line : (input line : List ℕ) → Lacks 10 line → 0 < length line → lines_of (input ++ line) ≡ lines_of (input ++ (line ++ 10 ∷ []))
last_line input line l h = lines.last_ended line l h input [] (lines.nothing_lacks 10)

-- Each line of the input gets its own answer, in order.
pub line_by_line : (lines : List (List ℕ)) → AllFree newline lines → (rest : List ℕ) → program_text (ended lines ++ rest) ≡ flatten (map line_text lines) ++ program_text rest
unfolding flatten
line_by_line [] f rest = refl
line_by_line (t ∷ ts) f rest =
    ap program_text (append_assoc t (newline ∷ ended ts) rest)
    ∙ line_alone t (ended ts ++ rest) (free_lacks f.0)
    ∙ ap (λ r. line_text t ++ r) (line_by_line ts f.1 rest)
    ∙ sym (append_assoc (line_text t) (flatten (map line_text ts)) (program_text rest))

-- Demand 3, of what the program writes: the lines of a range come first, and the answer to the rest of the input behind them.
pub demand_3 : (line rest : List ℕ) (r : RangeLine line) → (text : List ℕ) × FewestLines r.first r.last text × (program_text (line ++ newline ∷ rest) ≡ text ++ program_text rest)
demand_3 line rest r = (line_text line, range.demand_3 r, line_alone line rest (free_lacks (line_free r)))

-- ---- the input, sentence by sentence

program_answers : {input text : List ℕ} → Program input text → program_text input ≡ text
unfolding program_text
program_answers no_input = empty_input
program_answers (last {line} {text} f h l) =
    ap (λ ls. flatten (map line_text ls)) (last_line [] line (free_lacks f) h)
    ∙ line_alone line [] (free_lacks f)
    ∙ ap (λ r. line_text line ++ r) empty_input
    ∙ append-nil (line_text line)
    ∙ (range.line_exactly line text).1 l
program_answers (first line {rest} text f l p) = line_alone line rest (free_lacks f) ∙ ap₂ (λ t r. t ++ r) ((range.line_exactly line text).1 l) (program_answers p)

some_program : (n : ℕ) (input : List ℕ) → length input ≤ n → (text : List ℕ) × Program input text
some_program zero [] h = ([], no_input)
some_program zero (x ∷ t) h = absurd (omega arith)
some_program (suc n) [] h = ([], no_input)
some_program (suc n) (x ∷ t) h = elim (first_byte newline (x ∷ t)) [
  | inl f ↦ (line_text (x ∷ t), last f (omega arith) ((range.line_exactly (x ∷ t) (line_text (x ∷ t))).0 refl))
  | inr p ↦
      let line = p.0 in
      let more = some_program n p.1 (omega (arith, ap length p.2, length-append line (newline ∷ p.1))) in
      (line_text line ++ more.0, subst (λ i. Program i (line_text line ++ more.0)) (sym p.2) (first line (line_text line) p.3 ((range.line_exactly line (line_text line)).0 refl) more.1))
]

-- What is written for any input is what the paper's sentences say, and nothing else.
pub program_exactly : (input text : List ℕ) → (program_text input ≡ text) ↔ Program input text
program_exactly input text =
    (λ e. let s = some_program (length input) input (omega arith) in subst (Program input) (sym (program_answers s.1) ∙ e) s.1, program_answers)

-- ---- what lines give

module _ (explain : Bool) (name : List ℕ) (k : ℕ) where
  -- The answers are those of the lines, each by itself, whatever is told beside them.
  pub answers_alone : (ls : List (List ℕ)) → (report explain name k ls).text ≡ flatten (map line_text ls)
  answers_alone = reports.text_report explain name k

  -- Lines behind others give what they give alone, with their own numbers.
  pub numbered_on : (ls ms : List (List ℕ)) → k + length ls ≤ 18446744073709551615
      → report explain name k (ls ++ ms) ≡ followed (report explain name k ls) (report explain name (k + length ls) ms)
  numbered_on ls ms = reports.report_behind explain name ls ms k

  -- None is refused exactly if each asks for a range, and so is answered with blocks.
  pub unrefused_exactly : (ls : List (List ℕ)) → ((report explain name k ls).refused ≡ false) ↔ AllRanges ls
  unrefused_exactly ls = (reports.unrefused_ranges explain name k ls, reports.ranges_unrefused explain name k ls)

module _ (name : List ℕ) (k : ℕ) (ls : List (List ℕ)) where
  -- Nothing is told unasked,
  pub untold : (report false name k ls).notes ≡ []
  untold = reports.quiet_report name k ls

  -- and where it is asked for, a note of each refused line, with its number, and of no other. (Numbers of lines have 64 bits.)
  pub told_exactly : (t : List ℕ) → k + length ls ≤ 18446744073709551615 → ((report true name k ls).notes ≡ t) ↔ Told name k ls t
  told_exactly t h = (reports.told_back name k ls h t, reports.told_forth name k ls h t)

-- ---- a call

module _ {explain : Bool} {name : List ℕ} {s : Reader} {piece out out_after notes notes_after : List ℕ} {r : Fed} (f : Feeds explain name s piece out out_after notes notes_after r) where
  -- Nothing is cut: the first bytes of the two buffers are all that the lines which were taken give, and the others stay.
  pub nothing_cut : (take r.next out_after ≡ (fed explain name (length out) (length notes) (place_of s) piece).report.text)
      × (take r.noted notes_after ≡ (fed explain name (length out) (length notes) (place_of s) piece).report.notes)
      × (drop r.next out_after ≡ drop r.next out)
      × (drop r.noted notes_after ≡ drop r.noted notes)
  nothing_cut = ((session.answers_held explain name f).1, (session.told_held explain name f).1, puts_behind f.answers, puts_behind f.told)

  -- It stops early only where another answer, or another note, might have no room behind what is put,
  pub stops_for_room : (r.taken ≡ length piece) ⊎ ((length out < r.next + 11176) ⊎ ((explain ≡ true) × (length notes < r.noted + (length name + 91))))
  stops_for_room = session.stops explain name f

  -- and with room for one of each it takes a line, or all.
  pub takes_a_line : 11176 ≤ length out → (explain ≡ true → length name + 91 ≤ length notes) → 0 < length piece → 0 < r.taken
  takes_a_line = session.goes_on explain name f

-- ---- the input

-- Wherever the input is cut into pieces, and wherever a call stops for room: what all the calls leave in their buffers, end to end, is what the
-- lines of the whole input give. `start` answers a reader at the start, every call of `feed` is one of `feeds`, and one of `finish` that takes what
-- it is to take is one of `ends`.
pub whole_input : {explain : Bool} {name : List ℕ} {s : Reader} {input : List ℕ} {all : Report} → Session explain name s input all → place_of s ≡ at_start
    → all ≡ report explain name 1 (lines_of input)
whole_input {explain} {name} c e = session.whole_session explain name c e

-- So the answers are the program's, which are what the paper's sentences say.
pub whole_text : {explain : Bool} {name : List ℕ} {s : Reader} {input : List ℕ} {all : Report} → Session explain name s input all → place_of s ≡ at_start
    → (all.text ≡ program_text input) × Program input all.text
unfolding program_text
whole_text {explain} {name} {input = input} {all} c e =
    let t : all.text ≡ program_text input = ap (λ r. r.text) (whole_input c e) ∙ answers_alone explain name 1 (lines_of input) in
    (t, (program_exactly input all.text).0 (sym t))

-- Every input comes to its end, from any reader, by calls that have room for an answer and a note.
pub every_input_ends : (explain : Bool) (name : List ℕ) → ((s : Reader) (piece : List ℕ) → Called explain name s piece)
    → (s : Reader) (input : List ℕ) → (all : Report) × Session explain name s input all
every_input_ends explain name call s input = session.comes explain name call (length input) s input (omega arith)
