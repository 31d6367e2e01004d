-- The call that respells a sheet: what it answers and leaves is what the sentences say, case by case. Assumes nothing.
use Rattle.std.specs.Prelude.{Some}
use mathlib.Core.Path.{◌≡◌, refl, sym, ap, ap₂, subst, subst₂, ◌∙◌}
use mathlib.Core.Bool.{Bool}
use mathlib.Core.List.{List, ◌++◌}
use Prim.Native.Nat.{ℕ, ◌≤◌}
use native.Mathlib.Omega.{arith}
use lib.ListN.{length, drop}
use Rattle.notation.proofs.OptionLaws.{impossible, nothing_there}
use Rattle.address.specs.declared.Refusal.{Refusal}
use Rattle.address.specs.declared.Refusal.TheVariants.{TextTooLong, Malformed, NoRoom, TooMany}
use Rattle.address.specs.Answers.{Answer, gives, refuses, refusal_number, write_answer, write_leaves}
use Rattle.address.proofs.AnswerLaws.{write_short, write_fits}
use Rattle.address.proofs.Claims.{gives_one, gives_refuses}
use Rattle.sheet_lines.specs.declared.Entry.{Entry}
use Rattle.sheet_answers.specs.Sheets.{sheet_of, sheet_text, arranged}
use Rattle.sheet_answers.specs.SheetAnswers.{sheet_refusal, respell_answer, respell_leaves}
use Rattle.sheet_answers.proofs.ArrangedLaws.{arranged_all}
use Rattle.sheet_answers.proofs.RefusalLaws as refusals
use Rattle.sheet_answers.proofs.RespellLaws as respell
use Rattle.sheet_grammar.specs.SheetForm.{Sheet, Lines, WrittenSheet, Arranged, SheetCall, too_long, too_many, malformed, no_room, sheet_written}
use Rattle.sheet_grammar.proofs.SheetFormLaws as form
use Rattle.sheet_grammar.proofs.ArrangedFormLaws as order

module _ (sort : Bool) (t old : List ℕ) where
  abbrev answered : Answer ℕ
  answered = respell_answer sort t old

  abbrev left : List ℕ
  left = respell_leaves sort t old

  refused : (e : Refusal) → sheet_refusal t ≡ refusal_number e → (answered ≡ refuses 0 e) × (left ≡ old)
  refused e h = let r = refusals.refused_by_lem sort t old e h in (sym r.0, sym r.1)

  -- the text that is written of a sheet is the one that is to be written
  text_of : {es fs : List Entry} {u : List ℕ} → Sheet t es → Arranged sort es fs → WrittenSheet fs u → sheet_text (arranged sort es) ≡ u
  text_of {es} {fs} {u} s a w =
      let all = respell.entries_all t es (form.sheet_reads s) in
      form.one_text (form.sheet_written (arranged sort es) (arranged_all sort es all)) (subst (λ gs. WrittenSheet gs u) (order.arranged_only a all) w)

  -- a sheet that is not refused: the room decides
  as_written : {k : ℕ} {es fs : List Entry} {u : List ℕ} → length t ≤ 65536 → Lines t k → k ≤ 1024 → Sheet t es → Arranged sort es fs → WrittenSheet fs u
      → (answered ≡ write_answer 0 u old) × (left ≡ write_leaves 0 u old)
  unfolding respell_answer respell_leaves
  as_written {es = es} h l few s a w =
      let is = form.sheet_reads s in
      let fine = refusals.not_refused t h (omega (arith, few, form.lines_count l)) es is in
      let text = refusals.respelled_some sort t es is ∙ text_of s a w in
      (ap₂ (λ (n : ℕ) u. write_answer n u old) fine text, ap₂ (λ (n : ℕ) u. write_leaves n u old) fine text)

  pub call_does : {r : Answer ℕ} {new : List ℕ} → SheetCall sort t old r new → (answered ≡ r) × (left ≡ new)
  call_does (too_long h) = refused TextTooLong (refusals.too_long t (omega arith))
  call_does (too_many h l many) = refused TooMany (refusals.too_many t (omega arith) (omega (arith, many, form.lines_count l)))
  call_does (malformed h l few n) =
      refused Malformed (refusals.malformed t h (omega (arith, few, form.lines_count l)) (nothing_there (sheet_of t) (λ es e. n es (form.reads_sheet t es e))))
  call_does (no_room {u = u} h l few s a w less) =
      let (answer, leaves) = as_written h l few s a w in
      let (short, stays) = write_short u old (length u) refl (omega arith) in
      (answer ∙ sym short, leaves ∙ sym stays)
  call_does (sheet_written {u = u} h l few s a w room) =
      let (answer, leaves) = as_written h l few s a w in
      let (good, put) = write_fits u old (length u) refl (omega arith) (u ++ drop (length u) old) refl in
      (answer ∙ sym good, leaves ∙ sym put)

  of : {r : Answer ℕ} {new : List ℕ} → SheetCall sort t old r new → SheetCall sort t old answered left
  of c = let d = call_does c in subst₂ (SheetCall sort t old) (sym d.0) (sym d.1) c

  pub does_call : SheetCall sort t old (respell_answer sort t old) (respell_leaves sort t old)
  does_call = go (refusals.outcome sort t old)
    where
      written : (es : List Entry) → sheet_of t ≡ Some es → WrittenSheet (arranged sort es) (sheet_text (arranged sort es))
      written es is = form.sheet_written (arranged sort es) (arranged_all sort es (respell.entries_all t es is))

      go : {n : ℕ} → refusals.Outcomes sort t old n → SheetCall sort t old answered left
      go (refusals.long h) = of (too_long (omega arith))
      go (refusals.many h many) = of (too_many h (form.count_lines t) (omega arith))
      go (refusals.bad h few e) = of (malformed h (form.count_lines t) few (λ es s. impossible (sym e ∙ form.sheet_reads s)))
      go (refusals.no_room h few es is less) = of (no_room h (form.count_lines t) few (form.reads_sheet t es is) (order.arranged_has sort es (respell.entries_all t es is)) (written es is) less)
      go (refusals.good h few es is room) = of (sheet_written h (form.count_lines t) few (form.reads_sheet t es is) (order.arranged_has sort es (respell.entries_all t es is)) (written es is) room)

-- what a good call has found
pub says_good : {sort : Bool} {t old new : List ℕ} {r : Answer ℕ} (n : ℕ) → SheetCall sort t old r new → r ≡ gives n
    → (es : List Entry) × (fs : List Entry) × (u : List ℕ) × Sheet t es × Arranged sort es fs × WrittenSheet fs u × (length u ≡ n) × (new ≡ u ++ drop n old)
says_good n (too_long h) e = absurd (gives_refuses TextTooLong (sym e))
says_good n (too_many h l many) e = absurd (gives_refuses TooMany (sym e))
says_good n (malformed h l few not) e = absurd (gives_refuses Malformed (sym e))
says_good n (no_room h l few s a w less) e = absurd (gives_refuses NoRoom (sym e))
says_good {old = old} n (sheet_written {es = es} {fs = fs} {u = u} h l few s a w room) e =
    let long = gives_one e in
    (es, fs, u, s, a, w, long, ap (λ (k : ℕ). u ++ drop k old) long)
