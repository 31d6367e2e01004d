-- What the status of an input says of the bytes that its reads have brought. Assumes nothing.
use Rattle.std.specs.declared.io.Error.{Error}
use mathlib.Core.Path.{◌≡◌, sym, ap, subst, ◌∙◌}
use mathlib.Core.Bool.{Bool, true, false, false≢true}
use mathlib.Core.List.{List}
use Prim.Native.Nat.{ℕ}
use native.Mathlib.Decide.{dec_lt}
use native.Mathlib.Omega.{arith}
use lib.ListN.{length}
use Rattle.program_io.specs.declared.Got.TheVariants.{Failed}
use Rattle.sheet_answers.specs.SheetAnswers.{sheet_refusal, respelled}
use Rattle.sheet_notes.specs.SheetNotes.{refused_note}
use Rattle.sheet_main.specs.declared.Answered.{Answered}
use Rattle.sheet_main.specs.declared.InputAnswer.{InputAnswer}
use Rattle.sheet_main.specs.Runs.{gathered, last_got, is_whole, status_of, Answers, AnswersInput}
use Rattle.sheet_main.proofs.ChainLaws.{all_kept, failed}
use Rattle.sheet_main.proofs.ReplyLaws.{good_output, good_note, good_is, bad_output, bad_note, bad_is}
use Rattle.sheet_main.proofs.StatusLaws.{status_0, status_1}

module _ (sort explain : Bool) (name t : List ℕ) (r : Answered) (a : Answers sort explain name t r) (done : r.left ≡ 0) where
  all_written : r.refused ≡ false → (sheet_refusal t ≡ 0) × (r.moved ≡ length (respelled sort t))
  all_written h = elim (dec_lt 0 (sheet_refusal t)) [
    | yes l ↦ absurd (false≢true (sym h ∙ a.refused ∙ bad_is sort explain name t (λ z. omega arith)))
    | no l ↦ let z : sheet_refusal t ≡ 0 = omega arith in
        (z, omega (arith, done, a.all, ap length (good_output sort explain name t z), ap length (good_note sort explain name t z)))
  ]

  all_told : r.refused ≡ true → (sheet_refusal t ≡ 0 → ⊥) × (r.moved ≡ length (refused_note name explain (sheet_refusal t) t))
  all_told h = elim (dec_lt 0 (sheet_refusal t)) [
    | yes l ↦ let z : (sheet_refusal t ≡ 0 → ⊥) = λ z. omega arith in
        (z, omega (arith, done, a.all, ap length (bad_output sort explain name t z), ap length (bad_note sort explain name t z)))
    | no l ↦ absurd (false≢true (sym (good_is sort explain name t (omega arith)) ∙ sym a.refused ∙ h))
  ]

module _ (sort explain : Bool) (name input : List ℕ) (r : InputAnswer) (a : AnswersInput sort explain name input r) where
  -- all that the reads have brought is what was answered
  answers_all : is_whole r.run.end ≡ true → Answers sort explain name (gathered a.reads.chain) r.answered
  answers_all w = subst (λ t. Answers sort explain name t r.answered) (sym (all_kept a.reads.chain)) (a.answers.whole w)

  pub input_written : r.status ≡ 0
      → (sheet_refusal (gathered a.reads.chain) ≡ 0) × (r.answered.moved ≡ length (respelled sort (gathered a.reads.chain)))
  input_written e =
      let s = (status_0 r.answered.refused r.answered.left r.run.end).0 (sym a.is ∙ e) in
      all_written sort explain name _ r.answered (answers_all s.0) s.2 s.1

  pub input_refused : r.status ≡ 1
      → (sheet_refusal (gathered a.reads.chain) ≡ 0 → ⊥)
      × (r.answered.moved ≡ length (refused_note name explain (sheet_refusal (gathered a.reads.chain)) (gathered a.reads.chain)))
  input_refused e =
      let s = (status_1 r.answered.refused r.answered.left r.run.end).0 (sym a.is ∙ e) in
      all_told sort explain name _ r.answered (answers_all s.0) s.2 s.1

  -- a read that failed
  pub part_unanswered : (why : Error) → last_got a.reads.chain ≡ Failed why → (r.status ≡ 2) × (r.answered.moved ≡ 0)
  part_unanswered why f =
      let e = failed a.reads.chain (why, f) in
      (a.is ∙ ap (λ x. status_of x r.answered.refused r.answered.left) e, (a.answers.part (ap is_whole e)).1)
