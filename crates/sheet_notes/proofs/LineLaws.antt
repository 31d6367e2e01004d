-- The line at fault, as the code finds it. Assumes nothing.
use Rattle.std.specs.Prelude.{Some, None, Option}
use mathlib.Core.Path.{◌≡◌, refl, sym, ap, ◌∙◌}
use mathlib.Core.Bool.{cond, Bool, true, false}
use mathlib.Core.List.{List, [], ◌∷◌, ◌++◌}
use Prim.Native.Nat.{ℕ, ◌+◌, ◌*◌, ◌≤◌, ◌<◌}
use native.Mathlib.Numerals.{add-one}
use native.Mathlib.Omega.{arith}
use borrow.Author.Tests.{eq-eqb, ne_eqb}
use lib.Dec.{eqb}
use lib.ListN.{length, get_or, take, drop, length-append, length-take, length-drop}
use lib.Seq.{take-suc, take_all}
use Rattle.notation.specs.Pieces.{Lacks, index_of, split_on}
use Rattle.notation.proofs.PieceLaws.{split_found, split_last, split_first}
use Rattle.notation.proofs.SeparatedLaws.{index_seam, seam}
use Rattle.notation.proofs.SliceLaws.{tail, to_end, none_left}
use Rattle.sheet_lines.specs.declared.Entry.{Entry}
use Rattle.sheet_lines.specs.Lines.{fields_entry, line_entry}
use Rattle.sheet_lines.proofs.EntryLaws.{line_says, no_line_says}
use Rattle.sheet_answers.specs.SheetAnswers.{most_bytes, most_lines}
use Rattle.sheet_notes.specs.SheetNotes.{newlines, excess_line, one_more, good_lines, malformed_line, fault_line}

-- ---- newlines counted

pub newlines_append : (s t : List ℕ) → newlines (s ++ t) ≡ newlines s + newlines t
unfolding newlines
newlines_append [] t = omega arith
newlines_append (x ∷ s) t = omega (arith, newlines_append s t)

at_most_one : (b : Bool) → cond b 1 0 ≤ 1
at_most_one true = omega arith
at_most_one false = omega arith

pub newlines_most : (t : List ℕ) → newlines t ≤ length t
unfolding newlines
newlines_most [] = omega arith
newlines_most (x ∷ t) = omega (arith, at_most_one (eqb x 10), newlines_most t)

-- one more byte of the beginning
newlines_more : (t : List ℕ) (i : ℕ) → i < length t → newlines (take (i + 1) t) ≡ newlines (take i t) + cond (eqb (get_or t i 0) 10) 1 0
unfolding newlines
newlines_more t i h =
    ap (λ (k : ℕ). newlines (take k t)) (add-one i) ∙ ap newlines (take-suc t i 0 h) ∙ newlines_append (take i t) (get_or t i 0 ∷ []) ∙ omega arith

-- the lines of the first i bytes, and the one that the next byte is in
pub record Counted (t : List ℕ) (i line : ℕ) : Type 0 where
  pub within : i ≤ length t
  pub few : i ≤ most_bytes
  pub most : line ≤ i + 1
  pub is : line ≡ newlines (take i t) + 1

pub count_start : (t : List ℕ) → Counted t 0 1
unfolding newlines
count_start t = record { within = omega arith; few = omega arith; most = omega arith; is = refl }

module _ {t : List ℕ} {i line : ℕ} (c : Counted t i line) where
  pub count_on : i < length t → i < most_bytes → (n : ℕ) → n ≡ cond (eqb (get_or t i 0) 10) 1 0 → Counted t (i + 1) (line + n)
  count_on h l n e =
      record {
        within = omega arith;
        few = omega arith;
        most = omega (arith, c.most, at_most_one (eqb (get_or t i 0) 10), e);
        is = omega (arith, c.is, newlines_more t i h, e);
      }

  pub count_full : most_bytes ≤ i → line ≡ excess_line t
  unfolding excess_line
  count_full h = let e : i ≡ most_bytes = omega (arith, c.few) in c.is ∙ ap (λ (k : ℕ). newlines (take k t) + 1) e

  pub count_end : length t ≤ i → line ≡ excess_line t
  unfolding excess_line
  count_end h =
      let n : length t ≤ most_bytes = omega (arith, c.few) in
      c.is ∙ ap (λ s. newlines s + 1) (take_all i t h ∙ sym (take_all most_bytes t n))

-- ---- malformed lines

abbrev pub good : List ℕ → ℕ
good t = good_lines (split_on 10 t)

pub good_none : good [] ≡ 0
unfolding good_lines split_on
good_none = refl

module _ (t : List ℕ) (i : ℕ) (at : i ≡ index_of 10 t) where
  pub good_last : length t ≤ i → good t ≡ 0
  unfolding good_lines
  good_last h = ap good_lines (split_last 10 t (omega arith))

  pub good_found : i < length t → good t ≡ one_more (line_entry (take i t)) (good (tail (i + 1) t))
  unfolding good_lines
  good_found h =
      let rest = tail (i + 1) t in
      let cut : split_on 10 t ≡ take i t ∷ split_on 10 rest = rw (to_end (i + 1) t, add-one i, at) (split_found 10 t (omega arith)) in
      let s = split_first 10 rest in
      ap good_lines (cut ∙ ap (λ ps. take i t ∷ ps) s.1) ∙ ap (λ ps. one_more (line_entry (take i t)) (good_lines ps)) (sym s.1)

pub good_after : (p t : List ℕ) → Lacks 10 p → good (p ++ 10 ∷ t) ≡ one_more (line_entry p) (good t)
good_after p t h =
    let w = p ++ 10 ∷ t in
    let i = index_of 10 w in
    let s = seam 10 p t h in
    good_found w i refl (omega (arith, index_seam 10 p t h, length-append p (10 ∷ t)))
    ∙ ap (λ l. one_more (line_entry l) (good (tail (i + 1) w))) s.1
    ∙ ap (λ r. one_more (line_entry p) (good r)) (to_end (i + 1) w ∙ ap (λ (k : ℕ). drop k w) (add-one i) ∙ s.2)

-- an empty line is malformed
empty_line : line_entry [] ≡ None
unfolding line_entry fields_entry split_on
empty_line = refl

-- a line that is read has a byte
line_bytes : (t : List ℕ) (e : Entry) → line_entry t ≡ Some e → 0 < length t
line_bytes [] e h = let z : ◌≡◌ {A = ℕ} 0 1 = cc empty_line in absurd (omega arith)
line_bytes (x ∷ t) e h = omega arith

-- the lines before the rest are good
pub record Passed (t rest : List ℕ) (line : ℕ) : Type 0 where
  pub short : 2 * line + length rest ≤ 2 + length t
  pub is : malformed_line t ≡ line + good rest

pub pass_start : (t : List ℕ) → Passed t t 1
unfolding malformed_line
pass_start t = record { short = omega arith; is = omega arith }

module _ {t rest : List ℕ} {line : ℕ} (p : Passed t rest line) where
  pub pass_done : length rest ≤ 0 → line ≡ malformed_line t
  pass_done h = omega (arith, p.is, ap good (none_left rest h), good_none)

  module _ (i : ℕ) (at : i ≡ index_of 10 rest) where
    pub pass_last : length rest ≤ i → line ≡ malformed_line t
    pass_last h = omega (arith, p.is, good_last rest i at h)

    module _ (h : i < length rest) {r : Option Entry} (reads : r ≡ (line_entry (take i rest))) where
      pub pass_bad : r ≡ None → line ≡ malformed_line t
      pass_bad e = omega (arith, p.is, good_found rest i at h, ap (λ o. one_more o (good (tail (i + 1) rest))) (no_line_says (line_entry (take i rest)) (sym e ∙ reads)))

      pub pass_on : (e : Entry) → r ≡ Some e → Passed t (tail (i + 1) rest) (line + 1)
      pass_on e l =
          let o = line_says (line_entry (take i rest)) e (sym l ∙ reads) in
          let some_bytes = line_bytes (take i rest) e o in
          record {
            short = omega (arith, p.short, some_bytes, length-take i rest, ap length (to_end (i + 1) rest), length-drop (i + 1) rest);
            is = omega (arith, p.is, good_found rest i at h, ap (λ q. one_more q (good (tail (i + 1) rest))) o);
          }

-- ---- by the refusal's number

module _ {n : ℕ} (t : List ℕ) where
  pub fault_1 : n ≡ 1 → fault_line n t ≡ excess_line t
  unfolding fault_line
  fault_1 e = rw (eq-eqb n 1 e)

  module _ (a : n ≡ 1 → ⊥) where
    pub fault_10 : n ≡ 10 → fault_line n t ≡ most_lines + 1
    unfolding fault_line
    fault_10 e = rw (ne_eqb n 1 a, eq-eqb n 10 e)

    module _ (b : n ≡ 10 → ⊥) where
      pub fault_2 : n ≡ 2 → fault_line n t ≡ malformed_line t
      unfolding fault_line
      fault_2 e = rw (ne_eqb n 1 a, ne_eqb n 10 b, eq-eqb n 2 e)

      pub fault_other : (n ≡ 2 → ⊥) → fault_line n t ≡ 0
      unfolding fault_line
      fault_other c = rw (ne_eqb n 1 a, ne_eqb n 10 b, ne_eqb n 2 c)
