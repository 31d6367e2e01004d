-- What lines give: the answers, what is told of them, and whether any is refused. Assumes nothing.
use mathlib.Core.Path.{◌≡◌, refl, sym, ap, ap₂, subst, ◌∙◌}
use mathlib.Core.Logic.{inl, inr}
use mathlib.Core.Bool.{Bool, true, false, not, ◌||◌, false≢true}
use mathlib.Core.List.{List, [], ◌∷◌, ◌++◌, flatten, map}
use Prim.Native.Nat.{ℕ, suc, ◌+◌, ◌≤◌}
use native.Mathlib.Omega.{arith}
use borrow.Author.Tests.{eqb-true, eq-eqb}
use lib.Dec.{eqb}
use lib.ListN.{length}
use Rattle.address.specs.Answers.{refusal_number}
use Rattle.address.proofs.AnswerLaws.{number_pos}
use Rattle.notes.specs.Notes.{note_text}
use Rattle.range_text.specs.RangeText.{answer_line, line_text, line_number}
use Rattle.range_text.proofs.Claims.{number_exactly, answered_exactly, range_or_refused}
use Rattle.range_lines.specs.Lines.{next_line, told_of, followed, line_report, report}
use Rattle.range_lines.specs.ProgramForm.{Told, no_line, answered, refused, AllRanges}
use Rattle.range_lines.proofs.LineLaws.{followed_assoc}
use Rattle.range_lines.proofs.NoteLaws.{unwanted_note, no_note, a_note}

-- the answers, whatever is told
pub text_report : (explain : Bool) (name : List ℕ) (k : ℕ) (ls : List (List ℕ)) → (report explain name k ls).text ≡ flatten (map line_text ls)
unfolding report flatten
text_report explain name k [] = refl
text_report explain name k (l ∷ ls) = ap (λ t. line_text l ++ t) (text_report explain name (next_line k) ls)

-- nothing is told unasked
pub quiet_report : (name : List ℕ) (k : ℕ) (ls : List (List ℕ)) → (report false name k ls).notes ≡ []
unfolding report
quiet_report name k [] = refl
quiet_report name k (l ∷ ls) = ap₂ (λ a b. a ++ b) (unwanted_note name k (line_number l) refl) (quiet_report name (next_line k) ls)

-- lines behind others go on counting
pub report_behind : (explain : Bool) (name : List ℕ) (ls ms : List (List ℕ)) (k : ℕ) → k + length ls ≤ 18446744073709551615
    → report explain name k (ls ++ ms) ≡ followed (report explain name k ls) (report explain name (k + length ls) ms)
unfolding report
report_behind explain name [] ms k h = let z : k ≡ k + 0 = omega arith in ap (λ j. report explain name j ms) z
report_behind explain name (l ∷ ls) ms k h =
    let next : next_line k ≡ suc k = omega arith in
    let there : next_line k + length ls ≡ k + suc (length ls) = omega arith in
    ap (followed (line_report explain name k (answer_line l))) (report_behind explain name ls ms (next_line k) (omega (arith, next)) ∙ ap (λ j. followed (report explain name (next_line k) ls) (report explain name j ms)) there)
    ∙ sym (followed_assoc (line_report explain name k (answer_line l)) (report explain name (next_line k) ls) (report explain name (k + suc (length ls)) ms))

-- ---- what is told

some_told : (name : List ℕ) (k : ℕ) (ls : List (List ℕ)) → (t : List ℕ) × Told name k ls t
some_told name k [] = ([], no_line)
some_told name k (l ∷ ls) = let m = some_told name (suc k) ls in elim (range_or_refused l) [
  | inl r ↦ (m.0, answered r m.1)
  | inr (e, w) ↦ (note_text name k (refusal_number e) ++ m.0, refused e w m.1)
]

told_says : {name : List ℕ} {k : ℕ} {ls : List (List ℕ)} {t : List ℕ} → Told name k ls t → k + length ls ≤ 18446744073709551615 → (report true name k ls).notes ≡ t
unfolding report
told_says no_line h = refl
told_says {name} {k} (answered {line = l} {lines = ls} r m) h =
    let next : next_line k ≡ suc k = omega arith in
    ap₂ (λ a b. a ++ b) (no_note name k (line_number l) true (omega (arith, (answered_exactly l).1 r))) (ap (λ j. (report true name j ls).notes) next ∙ told_says m (omega arith))
told_says {name} {k} (refused {line = l} {lines = ls} e w m) h =
    let next : next_line k ≡ suc k = omega arith in
    let n = (number_exactly l e).1 w in
    let told : told_of true name k (line_number l) ≡ note_text name k (refusal_number e) =
    a_note name k (line_number l) refl (omega (arith, n, number_pos e)) ∙ ap (note_text name k) n
    in
    ap₂ (λ a b. a ++ b) told (ap (λ j. (report true name j ls).notes) next ∙ told_says m (omega arith))

module _ (name : List ℕ) (k : ℕ) (ls : List (List ℕ)) (h : k + length ls ≤ 18446744073709551615) where
  pub told_back : (t : List ℕ) → (report true name k ls).notes ≡ t → Told name k ls t
  told_back t e = let s = some_told name k ls in subst (Told name k ls) (sym (told_says s.1 h) ∙ e) s.1

  pub told_forth : (t : List ℕ) → Told name k ls t → (report true name k ls).notes ≡ t
  told_forth t s = told_says s h

-- ---- whether any is refused

none_of : (a b : Bool) → (a || b) ≡ false → (a ≡ false) × (b ≡ false)
none_of false b e = (refl, e)
none_of true b e = absurd (false≢true (sym e))

is_zero : (n : ℕ) → not (eqb n 0) ≡ false → n ≡ 0
is_zero n e = go (eqb n 0) refl e
  where
    go : (t : Bool) → eqb n 0 ≡ t → not t ≡ false → n ≡ 0
    go true q k = eqb-true n 0 q
    go false q k = absurd (false≢true (sym k))

pub unrefused_ranges : (explain : Bool) (name : List ℕ) (k : ℕ) (ls : List (List ℕ)) → (report explain name k ls).refused ≡ false → AllRanges ls
unfolding report
unrefused_ranges explain name k [] e = tt
unrefused_ranges explain name k (l ∷ ls) e =
    let both = none_of (not (eqb (line_number l) 0)) (report explain name (next_line k) ls).refused e in
    ((answered_exactly l).0 (is_zero (line_number l) both.0), unrefused_ranges explain name (next_line k) ls both.1)

pub ranges_unrefused : (explain : Bool) (name : List ℕ) (k : ℕ) (ls : List (List ℕ)) → AllRanges ls → (report explain name k ls).refused ≡ false
unfolding report
ranges_unrefused explain name k [] r = refl
ranges_unrefused explain name k (l ∷ ls) r = ap₂ (λ a b. not a || b) (eq-eqb (line_number l) 0 ((answered_exactly l).1 r.0)) (ranges_unrefused explain name (next_line k) ls r.1)
