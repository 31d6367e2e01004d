-- The line at fault is the first with which the sheet breaks the rule of its number, and of a sheet that is too long the first 65,537 bytes tell all.
-- Assumes nothing.
use Rattle.std.specs.Prelude.{Option, Some, None}
use mathlib.Core.Path.{◌≡◌, refl, sym, ap, subst, ◌∙◌}
use mathlib.Core.Logic.{◌↔◌, ◌⊎◌, inl, inr, ⊎_elim}
use mathlib.Core.Bool.{Bool, true, false, false≢true}
use mathlib.Core.List.{List}
use Prim.Native.Nat.{ℕ, ◌+◌, ◌≤◌, ◌<◌}
use native.Mathlib.Numerals.{add-one}
use native.Mathlib.Decide.{dec_le, dec_lt}
use native.Mathlib.Omega.{arith}
use borrow.Author.Tests.{ltb-true, lt-ltb, le-ltb, eqb-true}
use lib.Dec.{eqb, ltb}
use lib.ListN.{length, take, length-take}
use lib.Seq.{take_all, take-take}
use Rattle.address.specs.Answers.{missing, holds}
use Rattle.address.proofs.Claims.{refusal_holds}
use Rattle.sheet_lines.specs.declared.Entry.{Entry}
use Rattle.sheet_answers.specs.Sheets.{sheet_of, sheet_lines}
use Rattle.sheet_answers.specs.SheetAnswers.{most_bytes, most_lines, sheet_precedence, sheet_reasons, sheet_refusal}
use Rattle.notes.specs.Notes.{note_text}
use Rattle.sheet_answers.proofs.RefusalLaws.{too_long}
use Rattle.sheet_notes.specs.SheetNotes.{newlines, excess_line, malformed_line, fault_line, first_lines, breaks, FirstFault, refused_note}
use Rattle.sheet_notes.proofs.LineLaws.{good, fault_1, fault_10, fault_2}
use Rattle.sheet_notes.proofs.BeginningLaws.{reach, short, lines_most, lines_least, lines_all, good_held, bad_held}

-- ---- the three rules

module _ (t : List ℕ) where
  breaks_1 : breaks 1 t ≡ ltb most_bytes (length t)
  unfolding holds
  breaks_1 = refl

  breaks_10 : breaks 10 t ≡ ltb most_lines (length (sheet_lines t))
  unfolding holds
  breaks_10 = refl

  breaks_2 : breaks 2 t ≡ missing (sheet_of t)
  unfolding holds
  breaks_2 = refl

  -- no other number has one
  other_kept : (n : ℕ) → eqb n 1 ≡ false → eqb n 10 ≡ false → eqb n 2 ≡ false → breaks n t ≡ false
  unfolding holds
  other_kept n e f g = rw (e, holds, f, holds, g, holds)

  which : (n : ℕ) → breaks n t ≡ true → (n ≡ 1) ⊎ ((n ≡ 10) ⊎ (n ≡ 2))
  which n h = go (eqb n 1) refl (eqb n 10) refl (eqb n 2) refl
    where
      go : (a : Bool) → eqb n 1 ≡ a → (b : Bool) → eqb n 10 ≡ b → (c : Bool) → eqb n 2 ≡ c → (n ≡ 1) ⊎ ((n ≡ 10) ⊎ (n ≡ 2))
      go true e b f c g = inl (eqb-true n 1 e)
      go false e true f c g = inr (inl (eqb-true n 10 f))
      go false e false f true g = inr (inr (eqb-true n 2 g))
      go false e false f false g = absurd (false≢true (sym (other_kept n e f g) ∙ h))

-- what breaks each
module _ (t : List ℕ) where
  pub breaks_1_exactly : (breaks 1 t ≡ true) ↔ (most_bytes < length t)
  breaks_1_exactly = (λ b. ltb-true most_bytes (length t) (sym (breaks_1 t) ∙ b), λ h. breaks_1 t ∙ lt-ltb most_bytes (length t) h)

  pub breaks_10_exactly : (breaks 10 t ≡ true) ↔ (most_lines < length (sheet_lines t))
  breaks_10_exactly = (λ b. ltb-true most_lines (length (sheet_lines t)) (sym (breaks_10 t) ∙ b), λ h. breaks_10 t ∙ lt-ltb most_lines (length (sheet_lines t)) h)

  pub breaks_2_exactly : (breaks 2 t ≡ true) ↔ (sheet_of t ≡ None)
  breaks_2_exactly = (λ b. none_there (sheet_of t) (sym (breaks_2 t) ∙ b), λ z. breaks_2 t ∙ ap missing z)
    where
      none_there : (o : Option (List Entry)) → missing o ≡ true → o ≡ None
      none_there None h = refl
      none_there (Some es) h = absurd (false≢true h)

-- ---- the first line at fault

-- a line up to which the rule is kept is one of the sheet's, where the sheet breaks the rule
within : (n : ℕ) (t : List ℕ) (line : ℕ) → breaks n t ≡ true → ((k : ℕ) → k < line → breaks n (first_lines k t) ≡ false) → line ≤ length (sheet_lines t)
within n t line b kept = elim (dec_le line (length (sheet_lines t))) [
  | yes h ↦ h
  | no h ↦ let all = lines_all (length (sheet_lines t)) t (omega arith) in
      absurd (false≢true (sym (kept (length (sheet_lines t)) (omega arith)) ∙ ap (breaks n) all ∙ b))
]

module _ (t : List ℕ) where
  first_1 : breaks 1 t ≡ true → FirstFault 1 t (excess_line t)
  unfolding excess_line
  first_1 b =
      let n = newlines (take most_bytes t) in
      let long = (breaks_1_exactly t).0 b in
      let kept : (k : ℕ) → k < n + 1 → breaks 1 (first_lines k t) ≡ false =
      λ k h. breaks_1 (first_lines k t) ∙ le-ltb most_bytes (length (first_lines k t)) (short most_bytes k t (omega (arith, h))) in
      record {
        some_line = omega arith;
        of_sheet = within 1 t (n + 1) b kept;
        broken = (breaks_1_exactly (first_lines (n + 1) t)).1 (subst (λ (k : ℕ). most_bytes < length (first_lines k t)) (sym (add-one n)) (reach most_bytes t long));
        kept = kept;
      }

  first_10 : breaks 10 t ≡ true → FirstFault 10 t (most_lines + 1)
  first_10 b =
      let many = (breaks_10_exactly t).0 b in
      let kept : (k : ℕ) → k < most_lines + 1 → breaks 10 (first_lines k t) ≡ false =
      λ k h. breaks_10 (first_lines k t) ∙ le-ltb most_lines (length (sheet_lines (first_lines k t))) (omega (arith, h, lines_most k t)) in
      record {
        some_line = omega arith;
        of_sheet = within 10 t (most_lines + 1) b kept;
        broken = (breaks_10_exactly (first_lines (most_lines + 1) t)).1 (omega (arith, lines_least (most_lines + 1) t (omega (arith, many))));
        kept = kept;
      }

  first_2 : breaks 2 t ≡ true → FirstFault 2 t (malformed_line t)
  unfolding malformed_line
  first_2 b =
      let n = good t in
      let z = (breaks_2_exactly t).0 b in
      let kept : (k : ℕ) → k < n + 1 → breaks 2 (first_lines k t) ≡ false =
      λ k h. breaks_2 (first_lines k t) ∙ ap missing (good_held k t (omega (arith, h))).1 in
      record {
        some_line = omega arith;
        of_sheet = within 2 t (n + 1) b kept;
        broken = (breaks_2_exactly (first_lines (n + 1) t)).1 (ap (λ (k : ℕ). sheet_of (first_lines k t)) (add-one n) ∙ bad_held n t refl z);
        kept = kept;
      }

pub first_fault : (n : ℕ) (t : List ℕ) → breaks n t ≡ true → FirstFault n t (fault_line n t)
first_fault n t b =
    ⊎_elim
    (λ e. subst (FirstFault n t) (sym (fault_1 t e)) (subst (λ (m : ℕ). FirstFault m t (excess_line t)) (sym e) (first_1 t (ap (λ (m : ℕ). breaks m t) (sym e) ∙ b))))
    (⊎_elim
    (λ e. subst (FirstFault n t) (sym (fault_10 t (λ f. omega (arith, e, f)) e)) (subst (λ (m : ℕ). FirstFault m t (most_lines + 1)) (sym e) (first_10 t (ap (λ (m : ℕ). breaks m t) (sym e) ∙ b))))
    (λ e. subst (FirstFault n t) (sym (fault_2 t (λ f. omega (arith, e, f)) (λ f. omega (arith, e, f)) e)) (subst (λ (m : ℕ). FirstFault m t (malformed_line t)) (sym e) (first_2 t (ap (λ (m : ℕ). breaks m t) (sym e) ∙ b)))))
    (which t n b)

-- a sheet that is refused breaks the rule of its number
pub refused_breaks : (t : List ℕ) → 0 < sheet_refusal t → breaks (sheet_refusal t) t ≡ true
unfolding sheet_refusal
refused_breaks t h = refusal_holds (sheet_reasons t) sheet_precedence h

-- there is only one such line
pub one_fault : {n : ℕ} {t : List ℕ} {a b : ℕ} → FirstFault n t a → FirstFault n t b → a ≡ b
one_fault {a = a} {b = b} f g = elim (dec_lt a b) [
  | yes h ↦ absurd (false≢true (sym (g.kept a h) ∙ f.broken))
  | no h ↦ elim (dec_lt b a) [
    | yes l ↦ absurd (false≢true (sym (f.kept b l) ∙ g.broken))
    | no l ↦ omega arith
  ]
]

-- ---- a sheet that is too long

-- as many bytes as tell it
abbrev pub front : List ℕ → List ℕ
front t = take (most_bytes + 1) t

front_long : (t : List ℕ) → most_bytes + 1 < length t → most_bytes < length (front t)
front_long t h = omega (arith, length-take (most_bytes + 1) t)

front_all : {A : Type 0} (f : List ℕ → A) (t : List ℕ) → (most_bytes + 1 < length t → f (front t) ≡ f t) → f (front t) ≡ f t
front_all f t h = elim (dec_lt (most_bytes + 1) (length t)) [ yes l ↦ h l | no l ↦ ap f (take_all (most_bytes + 1) t (omega arith)) ]

pub front_refusal : (t : List ℕ) → sheet_refusal (front t) ≡ sheet_refusal t
front_refusal t = front_all sheet_refusal t (λ l. too_long (front t) (front_long t l) ∙ sym (too_long t (omega (arith, l))))

pub front_line : (n : ℕ) (t : List ℕ) → n ≡ 1 → fault_line n (front t) ≡ fault_line n t
unfolding excess_line
front_line n t e = fault_1 (front t) e ∙ ap (λ s. newlines s + 1) (take-take most_bytes (most_bytes + 1) t (omega arith)) ∙ sym (fault_1 t e)

pub front_note : (name : List ℕ) (explain : Bool) (t : List ℕ) → refused_note name explain (sheet_refusal t) (front t) ≡ refused_note name explain (sheet_refusal t) t
unfolding refused_note
front_note name true t = front_all (λ s. refused_note name true (sheet_refusal t) s) t (λ l. ap (λ (k : ℕ). note_text name k (sheet_refusal t)) (front_line (sheet_refusal t) t (too_long t (omega (arith, l)))))
front_note name false t = refl
