-- What is to be written for a sheet, as it stands in the buffers. Assumes nothing.
use Rattle.std.specs.Prelude.{Option, Some, None}
use mathlib.Core.Path.{◌≡◌, refl, sym, ap, ◌∙◌}
use mathlib.Core.Bool.{Bool, true, false, not}
use mathlib.Core.List.{List, []}
use Prim.Native.Nat.{ℕ, ◌+◌, ◌≤◌, ◌<◌}
use native.Mathlib.Decide.{dec_lt}
use native.Mathlib.Omega.{arith}
use borrow.Author.Tests.{eq-eqb, ne_eqb}
use lib.Dec.{eqb}
use lib.ListN.{length, take}
use lib.Seq.{length-take-le, take_all}
use Rattle.address.specs.declared.Refusal.{Refusal}
use Rattle.address.specs.Answers.{refusal_number, gives, refuses}
use Rattle.address.proofs.Claims.{number_above_0}
use Rattle.output.specs.Placing.{Puts}
use Rattle.output.proofs.PlacingLaws.{puts_whole}
use Rattle.sheet_lines.specs.declared.Entry.{Entry}
use Rattle.sheet_answers.specs.Sheets.{sheet_lines, sheet_of}
use Rattle.sheet_answers.specs.SheetAnswers.{sheet_refusal, respelled, respell_answer, respell_leaves}
use Rattle.sheet_answers.proofs.RefusalLaws.{too_long, too_many, malformed, not_refused}
use Rattle.sheet_answers.proofs.Claims.{number_1, number_10, number_2, room_for_all, written}
use Rattle.sheet_notes.specs.SheetNotes.{refused_note}
use Rattle.sheet_notes.proofs.Claims.{refused_most, front_refusal, front_note}
use Rattle.sheet_main.specs.declared.Reply.{Reply}
use Rattle.sheet_main.specs.Runs.{output_of, note_of, is_refused, Replies, Answers}

-- ---- a sheet that is not refused, and one that is

module _ (sort explain : Bool) (name t : List ℕ) where
  module _ (z : sheet_refusal t ≡ 0) where
    pub good_output : output_of sort t ≡ respelled sort t
    good_output = rw (eq-eqb (sheet_refusal t) 0 z)

    pub good_note : note_of explain name t ≡ []
    good_note = rw (eq-eqb (sheet_refusal t) 0 z)

    pub good_is : is_refused t ≡ false
    good_is = rw (eq-eqb (sheet_refusal t) 0 z)

  module _ (z : sheet_refusal t ≡ 0 → ⊥) where
    pub bad_output : output_of sort t ≡ []
    bad_output = rw (ne_eqb (sheet_refusal t) 0 z)

    pub bad_note : note_of explain name t ≡ refused_note name explain (sheet_refusal t) t
    bad_note = rw (ne_eqb (sheet_refusal t) 0 z)

    pub bad_is : is_refused t ≡ true
    bad_is = rw (ne_eqb (sheet_refusal t) 0 z)

-- ---- in the program's buffers

module _ (sort : Bool) (t old : List ℕ) (room : length old ≡ 53248) where
  -- only the sheet's own faults refuse it: refusal 3 is never given
  number_is : (respell_answer sort t old).number ≡ sheet_refusal t
  number_is = elim (dec_lt 65536 (length t)) [
    | yes long ↦ (number_1 sort t old).1 long ∙ sym (too_long t long)
    | no short ↦ elim (dec_lt 1024 (length (sheet_lines t))) [
      | yes many ↦ (number_10 sort t old).1 (omega arith, many) ∙ sym (too_many t (omega arith) many)
      | no few ↦ read (sheet_of t) refl (omega arith) (omega arith)
    ]
  ]
    where
      read : (o : Option (List Entry)) → sheet_of t ≡ o → length t ≤ 65536 → length (sheet_lines t) ≤ 1024 → (respell_answer sort t old).number ≡ sheet_refusal t
      read None e short few = (number_2 sort t old).1 (short, few, e) ∙ sym (malformed t short few e)
      read (Some es) e short few = room_for_all sort t es e few short old (omega (arith, room)) ∙ sym (not_refused t short few es e)

  module _ (explain : Bool) (name note : List ℕ) (new : List ℕ) where
    pub reply_written : (n : ℕ) → gives n ≡ respell_answer sort t old → new ≡ respell_leaves sort t old
        → Replies sort explain name t new note (record { written = n; noted = 0; refused = false })
    reply_written n e l =
        let z : sheet_refusal t ≡ 0 = sym number_is ∙ ap (λ r. r.number) (sym e) in
        let w = written sort t old n (sym e) in
        record {
          in_out = omega (arith, w.2, room);
          in_note = omega arith;
          output = ap (take n) l ∙ w.0 ∙ sym (good_output sort explain name t z);
          told = sym (good_note sort explain name t z);
          refused = sym (good_is sort explain name t z);
        }

    pub reply_refused : (x : Refusal) → refuses 0 x ≡ respell_answer sort t old → (number : ℕ) → number ≡ refusal_number x → length name ≤ 4096
        → {before : List ℕ} {noted : ℕ} → length before ≡ 4187 → Puts before note 0 noted (refused_note name explain number t)
        → Replies sort explain name t new note (record { written = 0; noted = noted; refused = true })
    reply_refused x e number is short {before} size p =
        let n : number ≡ sheet_refusal t = is ∙ ap (λ r. r.number) e ∙ number_is in
        let z : sheet_refusal t ≡ 0 → ⊥ = λ q. omega (arith, number_above_0 x, is, n, q) in
        let whole = puts_whole p (omega (arith, refused_most name explain number t, short, size)) in
        record {
          in_out = omega arith;
          in_note = omega (arith, whole.0, refused_most name explain number t, short);
          output = sym (bad_output sort explain name t z);
          told = whole.1 ∙ ap (λ (k : ℕ). refused_note name explain k t) n ∙ sym (bad_note sort explain name t z);
          refused = sym (bad_is sort explain name t z);
        }

-- ---- written

pub answered : {sort explain : Bool} {name t out note : List ℕ} {r : Reply} → Replies sort explain name t out note r → length out ≡ 53248 → length note ≡ 4187
    → (moved left : ℕ) → moved + left ≡ r.written + r.noted → Answers sort explain name t (record { refused = r.refused; moved = moved; left = left })
answered {out = out} {note = note} {r = r} p o n moved left e =
    record {
      refused = p.refused;
      all = omega (
        arith,
        e,
        ap length p.output,
        ap length p.told,
        length-take-le r.written out (omega (arith, p.in_out, o)),
        length-take-le r.noted note (omega (arith, p.in_note, n)),
      );
    }

-- ---- a sheet that is longer than may be

-- as many bytes as the program reads
abbrev front : List ℕ → List ℕ
front t = take 65537 t

front_all : {A : Type 0} (f : List ℕ → A) (t : List ℕ) → (65537 < length t → f (front t) ≡ f t) → f (front t) ≡ f t
front_all f t h = elim (dec_lt 65537 (length t)) [ yes l ↦ h l | no l ↦ ap f (take_all 65537 t (omega arith)) ]

module _ (t : List ℕ) (l : 65537 < length t) where
  long : sheet_refusal t ≡ 0 → ⊥
  long z = omega (arith, too_long t (omega arith), z)

  front_long : sheet_refusal (front t) ≡ 0 → ⊥
  front_long z = long (sym (front_refusal t) ∙ z)

pub front_output : (sort : Bool) (t : List ℕ) → output_of sort (front t) ≡ output_of sort t
front_output sort t = front_all (output_of sort) t (λ l. bad_output sort sort [] (front t) (front_long t l) ∙ sym (bad_output sort sort [] t (long t l)))

pub front_told : (explain : Bool) (name t : List ℕ) → note_of explain name (front t) ≡ note_of explain name t
front_told explain name t =
    front_all (note_of explain name) t
    (λ l.
    bad_note explain explain name (front t) (front_long t l)
    ∙ ap (λ (k : ℕ). refused_note name explain k (front t)) (front_refusal t)
    ∙ front_note name explain t
    ∙ sym (bad_note explain explain name t (long t l)))

pub front_refused : (t : List ℕ) → is_refused (front t) ≡ is_refused t
front_refused t = ap (λ (k : ℕ). not (eqb k 0)) (front_refusal t)
