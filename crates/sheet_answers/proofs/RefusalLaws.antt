-- By which number the call refuses, and when; a refused call. Assumes nothing.
use Rattle.std.specs.Prelude.{Option, Some, None}
use mathlib.Core.Path.{◌≡◌, refl, sym, ap, subst, ◌∙◌}
use mathlib.Core.Logic.{◌⊎◌, inl, inr, ◌↔◌}
use mathlib.Core.Bool.{Bool, false}
use mathlib.Core.List.{List, [], ◌∷◌}
use Prim.Native.Nat.{ℕ, ◌≤◌, ◌<◌}
use native.Mathlib.Decide.{dec_lt, dec_le}
use native.Mathlib.Omega.{arith}
use borrow.Author.Tests.{lt-ltb, le-ltb}
use lib.Dec.{ltb}
use lib.ListN.{length, take, length-take}
use lib.Seq.{take_all}
use Rattle.address.specs.declared.Refusal.{Refusal}
use Rattle.address.specs.declared.Refusal.TheVariants.{TextTooLong}
use Rattle.address.specs.Answers.{Answer, refuses, refusal_number, missing, refusal, write_refusal, write_answer, write_leaves}
use Rattle.address.proofs.AnswerLaws.{stands, room_enough, room_less, write_other}
use Rattle.sheet_lines.specs.declared.Entry.{Entry}
use Rattle.sheet_answers.specs.Sheets.{sheet_lines, sheet_of, sheet_text, arranged}
use Rattle.sheet_answers.specs.SheetAnswers.{respelled, most_bytes, most_lines, sheet_precedence, sheet_refusal, respell_answer, respell_leaves}

-- ---- the sheet

module _ (t : List ℕ) where
  -- the first that holds
  refusal_is : (a b c : Bool) → ltb most_bytes (length t) ≡ a → ltb most_lines (length (sheet_lines t)) ≡ b → missing (sheet_of t) ≡ c
      → sheet_refusal t ≡ refusal sheet_precedence ((1, a) ∷ (10, b) ∷ (2, c) ∷ [])
  unfolding sheet_refusal
  refusal_is a b c p q r = rw (p, q, r)

  pub too_long : 65536 < length t → sheet_refusal t ≡ 1
  unfolding refusal
  too_long h = refusal_is _ _ _ (lt-ltb most_bytes (length t) (omega arith)) refl refl

  module _ (short : length t ≤ 65536) where
    no_more_bytes : ltb most_bytes (length t) ≡ false
    no_more_bytes = le-ltb most_bytes (length t) (omega arith)

    pub too_many : 1024 < length (sheet_lines t) → sheet_refusal t ≡ 10
    unfolding refusal
    too_many h = refusal_is _ _ _ no_more_bytes (lt-ltb most_lines (length (sheet_lines t)) (omega arith)) refl

    module _ (few : length (sheet_lines t) ≤ 1024) where
      no_more_lines : ltb most_lines (length (sheet_lines t)) ≡ false
      no_more_lines = le-ltb most_lines (length (sheet_lines t)) (omega arith)

      pub malformed : sheet_of t ≡ None → sheet_refusal t ≡ 2
      unfolding refusal
      malformed h = refusal_is _ _ _ no_more_bytes no_more_lines (ap missing h)

      pub not_refused : (es : List Entry) → sheet_of t ≡ Some es → sheet_refusal t ≡ 0
      unfolding refusal
      not_refused es h = refusal_is _ _ _ no_more_bytes no_more_lines (ap missing h)

-- what is to be written of a sheet that is read
pub respelled_some : (sort : Bool) (t : List ℕ) (es : List Entry) → sheet_of t ≡ Some es → respelled sort t ≡ sheet_text (arranged sort es)
unfolding respelled
respelled_some sort t es e = rw e

-- ---- the call

-- the numbers of the call, each with its conditions
pub data Outcomes (sort : Bool) (t old : List ℕ) : ℕ → Type 0 where
  long : 65536 < length t → Outcomes sort t old 1
  many : length t ≤ 65536 → 1024 < length (sheet_lines t) → Outcomes sort t old 10
  bad : length t ≤ 65536 → length (sheet_lines t) ≤ 1024 → sheet_of t ≡ None → Outcomes sort t old 2
  no_room : length t ≤ 65536 → length (sheet_lines t) ≤ 1024 → (es : List Entry) → sheet_of t ≡ Some es → length old < length (sheet_text (arranged sort es)) → Outcomes sort t old 3
  good : length t ≤ 65536 → length (sheet_lines t) ≤ 1024 → (es : List Entry) → sheet_of t ≡ Some es → length (sheet_text (arranged sort es)) ≤ length old → Outcomes sort t old 0

module _ (sort : Bool) (t old : List ℕ) where
  abbrev answered : ℕ
  answered = (respell_answer sort t old).number

  answer_is : respell_answer sort t old ≡ write_answer (sheet_refusal t) (respelled sort t) old
  unfolding respell_answer
  answer_is = refl

  leaves_is : respell_leaves sort t old ≡ write_leaves (sheet_refusal t) (respelled sort t) old
  unfolding respell_leaves
  leaves_is = refl

  number_is : answered ≡ write_refusal (sheet_refusal t) (respelled sort t) old
  unfolding write_answer
  number_is = ap (λ (r : Answer ℕ). r.number) answer_is

  -- the sheet's own refusal stands
  own : (n : ℕ) → 0 < n → sheet_refusal t ≡ n → answered ≡ n
  own n h e = number_is ∙ stands (respelled sort t) old (sheet_refusal t) (omega (arith, e, h)) ∙ e

  -- else the room decides
  room : (es : List Entry) → sheet_of t ≡ Some es → sheet_refusal t ≡ 0 → answered ≡ write_refusal 0 (sheet_text (arranged sort es)) old
  room es is e = number_is ∙ ap (λ m. write_refusal m (respelled sort t) old) e ∙ ap (λ u. write_refusal 0 u old) (respelled_some sort t es is)

  pub outcome_number : {n : ℕ} → Outcomes sort t old n → (respell_answer sort t old).number ≡ n
  outcome_number (long h) = own 1 (omega arith) (too_long t h)
  outcome_number (many s h) = own 10 (omega arith) (too_many t s h)
  outcome_number (bad s f h) = own 2 (omega arith) (malformed t s f h)
  outcome_number (no_room s f es is h) = room es is (not_refused t s f es is) ∙ room_less (sheet_text (arranged sort es)) old h
  outcome_number (good s f es is h) = room es is (not_refused t s f es is) ∙ room_enough (sheet_text (arranged sort es)) old h

  of : {n : ℕ} → Outcomes sort t old n → Outcomes sort t old (respell_answer sort t old).number
  of o = subst (Outcomes sort t old) (sym (outcome_number o)) o

  pub outcome : Outcomes sort t old (respell_answer sort t old).number
  outcome = elim (dec_lt 65536 (length t)) [
    | yes h ↦ of (long h)
    | no s ↦ elim (dec_lt 1024 (length (sheet_lines t))) [
      | yes h ↦ of (many (omega (arith, s)) h)
      | no f ↦ go (omega (arith, s)) (omega (arith, f)) (sheet_of t) refl
    ]
  ]
    where
      go : length t ≤ 65536 → length (sheet_lines t) ≤ 1024 → (o : Option (List Entry)) → sheet_of t ≡ o → Outcomes sort t old (respell_answer sort t old).number
      go s f None e = of (bad s f e)
      go s f (Some es) e = elim (dec_le (length (sheet_text (arranged sort es))) (length old)) [
        | yes h ↦ of (good s f es e h)
        | no h ↦ of (no_room s f es e (omega (arith, h)))
      ]

  -- ---- each number exactly

  pub one_exactly : (answered ≡ 1) ↔ (65536 < length t)
  one_exactly = (λ e. go outcome e, λ h. outcome_number (long h))
    where
      go : {n : ℕ} → Outcomes sort t old n → n ≡ 1 → 65536 < length t
      go (long h) e = h
      go (many s h) e = absurd (omega arith)
      go (bad s f h) e = absurd (omega arith)
      go (no_room s f es is h) e = absurd (omega arith)
      go (good s f es is h) e = absurd (omega arith)

  pub ten_exactly : (answered ≡ 10) ↔ ((length t ≤ 65536) × (1024 < length (sheet_lines t)))
  ten_exactly = (λ e. go outcome e, λ h. outcome_number (many h.0 h.1))
    where
      go : {n : ℕ} → Outcomes sort t old n → n ≡ 10 → (length t ≤ 65536) × (1024 < length (sheet_lines t))
      go (long h) e = absurd (omega arith)
      go (many s h) e = (s, h)
      go (bad s f h) e = absurd (omega arith)
      go (no_room s f es is h) e = absurd (omega arith)
      go (good s f es is h) e = absurd (omega arith)

  pub two_exactly : (answered ≡ 2) ↔ ((length t ≤ 65536) × (length (sheet_lines t) ≤ 1024) × (sheet_of t ≡ None))
  two_exactly = (λ e. go outcome e, λ h. outcome_number (bad h.0 h.1 h.2))
    where
      go : {n : ℕ} → Outcomes sort t old n → n ≡ 2 → (length t ≤ 65536) × (length (sheet_lines t) ≤ 1024) × (sheet_of t ≡ None)
      go (long h) e = absurd (omega arith)
      go (many s h) e = absurd (omega arith)
      go (bad s f h) e = (s, f, h)
      go (no_room s f es is h) e = absurd (omega arith)
      go (good s f es is h) e = absurd (omega arith)

  pub three_exactly : (answered ≡ 3)
      ↔ ((length t ≤ 65536) × (length (sheet_lines t) ≤ 1024) × (es : List Entry) × (sheet_of t ≡ Some es) × (length old < length (sheet_text (arranged sort es))))
  three_exactly = (λ e. go outcome e, λ h. outcome_number (no_room h.0 h.1 h.2 h.3 h.4))
    where
      go : {n : ℕ} → Outcomes sort t old n → n ≡ 3
          → (length t ≤ 65536) × (length (sheet_lines t) ≤ 1024) × (es : List Entry) × (sheet_of t ≡ Some es) × (length old < length (sheet_text (arranged sort es)))
      go (long h) e = absurd (omega arith)
      go (many s h) e = absurd (omega arith)
      go (bad s f h) e = absurd (omega arith)
      go (no_room s f es is h) e = (s, f, es, is, h)
      go (good s f es is h) e = absurd (omega arith)

  pub zero_exactly : (answered ≡ 0)
      ↔ ((length t ≤ 65536) × (length (sheet_lines t) ≤ 1024) × (es : List Entry) × (sheet_of t ≡ Some es) × (length (sheet_text (arranged sort es)) ≤ length old))
  zero_exactly = (λ e. go outcome e, λ h. outcome_number (good h.0 h.1 h.2 h.3 h.4))
    where
      go : {n : ℕ} → Outcomes sort t old n → n ≡ 0
          → (length t ≤ 65536) × (length (sheet_lines t) ≤ 1024) × (es : List Entry) × (sheet_of t ≡ Some es) × (length (sheet_text (arranged sort es)) ≤ length old)
      go (long h) e = absurd (omega arith)
      go (many s h) e = absurd (omega arith)
      go (bad s f h) e = absurd (omega arith)
      go (no_room s f es is h) e = absurd (omega arith)
      go (good s f es is h) e = (s, f, es, is, h)

  -- and no other
  pub five_numbers : (answered ≡ 0) ⊎ (answered ≡ 1) ⊎ (answered ≡ 2) ⊎ (answered ≡ 3) ⊎ (answered ≡ 10)
  five_numbers = go outcome
    where
      go : {n : ℕ} → Outcomes sort t old n → (n ≡ 0) ⊎ (n ≡ 1) ⊎ (n ≡ 2) ⊎ (n ≡ 3) ⊎ (n ≡ 10)
      go (long h) = inr (inl refl)
      go (many s h) = inr (inr (inr (inr refl)))
      go (bad s f h) = inr (inr (inl refl))
      go (no_room s f es is h) = inr (inr (inr (inl refl)))
      go (good s f es is h) = inl refl

  -- ---- a refused call

  pub refused_by_lem : (e : Refusal) → sheet_refusal t ≡ refusal_number e → (refuses 0 e ≡ respell_answer sort t old) × (old ≡ respell_leaves sort t old)
  refused_by_lem e h = let w = write_other (sheet_refusal t) (respelled sort t) old e (sym h) in (w.0 ∙ sym answer_is, w.1 ∙ sym leaves_is)

-- a sheet of more than 65,536 bytes is refused whatever they are
pub first_bytes : (sort : Bool) (t old : List ℕ)
    → (respell_answer sort (take 65537 t) old ≡ respell_answer sort t old) × (respell_leaves sort (take 65537 t) old ≡ respell_leaves sort t old)
first_bytes sort t old = elim (dec_le (length t) 65537) [
  | yes h ↦ let e = take_all 65537 t h in (ap (λ u. respell_answer sort u old) e, ap (λ u. respell_leaves sort u old) e)
  | no h ↦
      let part = refused_by_lem sort (take 65537 t) old TextTooLong (too_long (take 65537 t) (omega (arith, h, length-take 65537 t))) in
      let whole = refused_by_lem sort t old TextTooLong (too_long t (omega (arith, h))) in
      (sym part.0 ∙ whole.0, sym part.1 ∙ whole.1)
]
