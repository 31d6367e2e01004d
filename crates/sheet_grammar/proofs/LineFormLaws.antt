-- A line: what the form has is what is read, and what is written is the one text of its form. Assumes nothing.
use Rattle.std.specs.Prelude.{Some}
use mathlib.Core.Path.{◌≡◌, refl, sym, ap, ap₂, subst, ◌∙◌}
use mathlib.Core.List.{List, ◌∷◌, ◌++◌}
use Prim.Native.Nat.{ℕ}
use native.Mathlib.Omega.{arith}
use lib.Dec.{lit≤}
use Rattle.notation.specs.Pieces.{separated}
use Rattle.notation.proofs.OptionLaws.{same_value}
use Rattle.grammar.specs.NormalForm.{NormalForm}
use Rattle.grammar.proofs.LengthLaws.{strict_most}
use Rattle.grammar.proofs.StrictFormLaws.{form_reads, reads_0}
use Rattle.grammar.proofs.NormalFormLaws.{normal_written, written_normal}
use Rattle.sheet_lines.specs.declared.Entry.{Entry}
use Rattle.sheet_lines.specs.Lines.{number_to, volume_of, ph_of, at_least, line_entry, entry_text, IsEntry}
use Rattle.sheet_lines.proofs.FieldLaws.{least_says, least_some}
use Rattle.sheet_lines.proofs.EntryLaws.{Holds, read_holds, holds_read, address_strict, strict_address_of}
use Rattle.sheet_grammar.specs.SheetForm.{PlainNumber, Line, three_fields, WrittenLine, normal_fields}
use Rattle.sheet_grammar.proofs.NumberFormLaws.{plain_reads, reads_plain, one_spelling, numeral_plain}

-- ---- read

line_holds : {l : List ℕ} {e : Entry} → Line l e → Holds l e
unfolding volume_of ph_of
line_holds (three_fields {s} {t} {u} {a} {m} {n} f p low high q most) =
    record {
      address = s;
      volume = t;
      ph = u;
      is = refl;
      an_address = strict_address_of s a (omega (arith, strict_most f)) (form_reads f);
      a_volume = ap (at_least 1) (plain_reads 999999 p (omega arith)) ∙ least_some 1 m (omega arith);
      a_ph = plain_reads 1400 q (omega arith);
    }

pub line_reads : {l : List ℕ} {e : Entry} → Line l e → line_entry l ≡ Some e
line_reads {l} {e} f = holds_read l e (line_holds f)

holds_line : (l : List ℕ) (e : Entry) → Holds l e → Line l e
unfolding volume_of ph_of
holds_line l e h =
    let (read, low) = least_says 1 e.volume (number_to 999999 h.volume) h.a_volume in
    let (volume, high) = reads_plain 999999 h.volume e.volume read in
    let (ph, most) = reads_plain 1400 h.ph e.ph h.a_ph in
    subst (λ line. Line line e) (sym h.is) (three_fields (reads_0 h.address e.address (address_strict h.address e.address h.an_address).0) volume low high ph most)

pub reads_line : (l : List ℕ) (e : Entry) → line_entry l ≡ Some e → Line l e
reads_line l e h = holds_line l e (read_holds l e h)

pub one_entry : {l : List ℕ} {e f : Entry} → Line l e → Line l f → e ≡ f
one_entry p q = same_value (sym (line_reads p) ∙ line_reads q)

-- ---- written

pub line_written : (e : Entry) → IsEntry e → WrittenLine e (entry_text e)
unfolding entry_text separated
line_written e is =
    normal_fields (written_normal e.address is.address) (numeral_plain 10 e.volume (lit≤ tt) (omega (arith, is.volume))) (numeral_plain 10 e.ph (lit≤ tt) (omega (arith, is.ph)))

record Fields (e : Entry) (l : List ℕ) : Type 0 where
  address : List ℕ
  volume : List ℕ
  ph : List ℕ
  is : l ≡ address ++ (44 ∷ (volume ++ (44 ∷ ph)))
  an_address : NormalForm address e.address
  a_volume : PlainNumber volume e.volume
  a_ph : PlainNumber ph e.ph

fields : {e : Entry} {l : List ℕ} → WrittenLine e l → Fields e l
fields (normal_fields {s} {t} {u} f p q) = record { address = s; volume = t; ph = u; is = refl; an_address = f; a_volume = p; a_ph = q }

pub one_line : {e : Entry} {l k : List ℕ} → WrittenLine e l → WrittenLine e k → l ≡ k
one_line v w =
    let a = fields v in
    let b = fields w in
    let address = sym (normal_written a.an_address) ∙ normal_written b.an_address in
    let rest = ap₂ (λ t u. t ++ 44 ∷ u) (one_spelling a.a_volume b.a_volume) (one_spelling a.a_ph b.a_ph) in
    a.is ∙ ap₂ (λ s t. s ++ 44 ∷ t) address rest ∙ sym b.is
