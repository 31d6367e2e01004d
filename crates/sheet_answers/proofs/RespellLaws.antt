-- What a good call has written: what its lines hold, how long it is, and a second call on it. Assumes nothing.
use Rattle.std.specs.Prelude.{Some}
use mathlib.Core.Path.{◌≡◌, refl, sym, ap, ap₂, subst, subst₂, ◌∙◌}
use mathlib.Core.Bool.{Bool, true, false, cond}
use mathlib.Core.List.Memᴰ
use mathlib.Core.List.Permᴰ
use mathlib.Core.List.{List, [], ◌++◌, map, Memᴰ, Permᴰ}
use Prim.Native.Nat.{ℕ, ◌*◌, ◌≤◌}
use native.Mathlib.Omega.{arith}
use lib.ListN.{length, take, drop, length-map}
use Rattle.address.specs.Answers.{Answer, gives, write_answer, write_leaves}
use Rattle.address.proofs.AnswerLaws.{written_held, write_none, write_fits}
use Rattle.stable_sort.proofs.StableLaws.{perm_length}
use Rattle.sheet_lines.specs.declared.Entry.{Entry}
use Rattle.sheet_lines.specs.Lines.{line_entry, entry_text}
use Rattle.sheet_answers.specs.Sheets.{sheet_of, sheet_lines, sheet_text, AllEntries, Spelled, arranged}
use Rattle.sheet_answers.specs.SheetAnswers.{respelled, sheet_refusal, respell_answer, respell_leaves}
use Rattle.sheet_answers.proofs.LineLaws.{no_entries, no_lines}
use Rattle.sheet_answers.proofs.SheetLaws.{sheet_read, read_sheet, read_lines, read_all, read_spelled, text_read, text_lines, text_most, text_spelled}
use Rattle.sheet_answers.proofs.ArrangedLaws.{perm_from, arranged_perm, arranged_all, arranged_twice, arranged_none}
use Rattle.sheet_answers.proofs.RefusalLaws.{respelled_some, not_refused, zero_exactly}

-- ---- a sheet that is read

module _ (t : List ℕ) (es : List Entry) (is : sheet_of t ≡ Some es) where
  pub entries_all : AllEntries es
  entries_all = read_all (sheet_read t es is)

  pub lines_hold : map line_entry (sheet_lines t) ≡ map Some es
  lines_hold = read_lines (sheet_read t es is)

  pub as_many : length (sheet_lines t) ≡ length es
  as_many = sym (length-map (sheet_lines t) line_entry) ∙ ap length lines_hold ∙ length-map es Some

  -- ---- and what is written of it

  module _ (sort : Bool) where
    abbrev fs : List Entry
    fs = arranged sort es

    all : AllEntries fs
    all = arranged_all sort es entries_all

    written : respelled sort t ≡ sheet_text fs
    written = respelled_some sort t es is

    pub respelled_read : sheet_of (respelled sort t) ≡ Some fs
    respelled_read = ap sheet_of written ∙ read_sheet (text_read fs all)

    pub respelled_lines : length (sheet_lines (respelled sort t)) ≡ length (sheet_lines t)
    respelled_lines =
        ap (λ u. length (sheet_lines u)) written ∙ ap length (text_lines fs all) ∙ length-map fs entry_text ∙ sym (perm_length (arranged_perm sort es)) ∙ sym as_many

    pub respelled_spelled : Spelled (respelled sort t)
    respelled_spelled = subst Spelled (sym written) (text_spelled fs all)

    pub respelled_most : length (respelled sort t) ≤ 52 * length (sheet_lines t)
    respelled_most = omega (arith, ap length written, text_most fs all, ap (λ (k : ℕ). 52 * k) (sym (perm_length (arranged_perm sort es))), ap (λ (k : ℕ). 52 * k) as_many)

-- two sheets of the same entries, each in the spelling that is written, are the same
pub one_spelling : (t u : List ℕ) (es : List Entry) → sheet_of t ≡ Some es → sheet_of u ≡ Some es → Spelled t → Spelled u → t ≡ u
one_spelling t u es p q s r = read_spelled (sheet_read t es p) s ∙ sym (read_spelled (sheet_read u es q) r)

-- what each line of the second sheet holds, a line of the first holds
pub from_line : (t u : List ℕ) (es fs : List Entry) → sheet_of t ≡ Some es → sheet_of u ≡ Some fs → Permᴰ es fs
    → (line : List ℕ) → Memᴰ line (sheet_lines u) → (e : Entry) × (given : List ℕ) × (line_entry line ≡ Some e) × Memᴰ given (sheet_lines t) × (line_entry given ≡ Some e)
from_line t u es fs p q perm line m =
    let held = subst (Memᴰ (line_entry line)) (lines_hold u fs q) (Memᴰ.map line_entry m) in
    let (e, there, is) = Memᴰ.of_map Some fs held in
    let (given, here, has) = Memᴰ.of_map line_entry (sheet_lines t) (subst (Memᴰ (Some e)) (sym (lines_hold t es p)) (Memᴰ.map Some (perm_from perm there))) in
    (e, given, sym is, here, has)

-- and the lines of both hold the same, each once
pub same_lines : (t u : List ℕ) (es fs : List Entry) → sheet_of t ≡ Some es → sheet_of u ≡ Some fs → Permᴰ es fs
    → Permᴰ (map line_entry (sheet_lines t)) (map line_entry (sheet_lines u))
same_lines t u es fs p q perm = subst₂ Permᴰ (sym (lines_hold t es p)) (sym (lines_hold u fs q)) (Permᴰ.map Some perm)

-- ---- a good answer

module _ (sort : Bool) (t old : List ℕ) (n : ℕ) (good : respell_answer sort t old ≡ gives n) where
  -- what is known of the sheet
  pub good_sheet : (length t ≤ 65536) × (length (sheet_lines t) ≤ 1024) × (es : List Entry) × (sheet_of t ≡ Some es) × (length (sheet_text (arranged sort es)) ≤ length old)
  good_sheet = (zero_exactly sort t old).0 (ap (λ (r : Answer ℕ). r.number) good)

  abbrev es : List Entry
  es = good_sheet.2

  pub good_is : sheet_of t ≡ Some es
  good_is = good_sheet.3

  pub good_held : (take n (respell_leaves sort t old) ≡ respelled sort t) × (n ≡ length (respelled sort t)) × (n ≤ length old) × (drop n (respell_leaves sort t old) ≡ drop n old)
  unfolding respell_answer respell_leaves
  good_held = written_held (sheet_refusal t) (respelled sort t) old n good

  abbrev seen : List ℕ
  seen = take n (respell_leaves sort t old)

  pub seen_is : seen ≡ respelled sort t
  seen_is = good_held.0

  pub seen_read : sheet_of seen ≡ Some (arranged sort es)
  seen_read = ap sheet_of seen_is ∙ respelled_read t es good_is sort

  pub seen_spelled : Spelled seen
  seen_spelled = subst Spelled (sym seen_is) (respelled_spelled t es good_is sort)

  -- ---- a second call on what the first has left

  module _ (then : Bool) (buf : List ℕ) where
    fine : sheet_refusal t ≡ 0
    fine = not_refused t good_sheet.0 good_sheet.1 es good_is

    seen_fine : sheet_refusal seen ≡ 0
    seen_fine =
        let lines : length (sheet_lines seen) ≡ length (sheet_lines t) = ap (λ u. length (sheet_lines u)) seen_is ∙ respelled_lines t es good_is sort in
        not_refused seen (omega (arith, ap length seen_is, respelled_most t es good_is sort, good_sheet.1)) (omega (arith, lines, good_sheet.1)) (arranged sort es) seen_read

    same : respelled then seen ≡ respelled (cond sort true then) t
    same =
        respelled_some then seen (arranged sort es) seen_read
        ∙ ap sheet_text (arranged_twice sort then es)
        ∙ sym (respelled_some (cond sort true then) t es good_is)

    pub again : (respell_answer then seen buf ≡ respell_answer (cond sort true then) t buf) × (respell_leaves then seen buf ≡ respell_leaves (cond sort true then) t buf)
    unfolding respell_answer respell_leaves
    again =
        let e = seen_fine ∙ sym fine in
        (ap₂ (λ (k : ℕ) u. write_answer k u buf) e same, ap₂ (λ (k : ℕ) u. write_leaves k u buf) e same)

  -- the same request again
  pub unchanged : (buf : List ℕ) → n ≤ length buf → (respell_answer sort seen buf ≡ gives n) × (respell_leaves sort seen buf ≡ seen ++ drop n buf)
  unfolding respell_answer respell_leaves
  unchanged buf room =
      let e = seen_fine sort buf in
      let text : respelled sort seen ≡ seen = same sort buf ∙ ap (λ b. respelled b t) (either sort) ∙ sym seen_is in
      let w = write_fits seen buf n (ap length seen_is ∙ sym good_held.1) room (seen ++ drop n buf) refl in
      (ap₂ (λ (k : ℕ) u. write_answer k u buf) e text ∙ sym w.0, ap₂ (λ (k : ℕ) u. write_leaves k u buf) e text ∙ sym w.1)
    where
      either : (b : Bool) → cond b true b ≡ b
      either true = refl
      either false = refl

-- ---- no bytes

pub empty : (sort : Bool) (old : List ℕ) → (respell_answer sort [] old ≡ gives 0) × (respell_leaves sort [] old ≡ old)
unfolding respell_answer respell_leaves sheet_text
empty sort old =
    let written : respelled sort [] ≡ [] = respelled_some sort [] [] no_entries ∙ ap sheet_text (arranged_none sort) in
    let fine = not_refused [] (omega arith) (omega (arith, ap length no_lines)) [] no_entries in
    let w = write_none (sheet_refusal []) (respelled sort []) old fine (write_fits (respelled sort []) old 0 (ap length written) (omega arith) old (sym (ap (λ u. u ++ old) written))) in
    (sym w.0, sym w.1)
