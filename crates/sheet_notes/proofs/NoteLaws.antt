-- The note on a refused sheet: with or without its reason, how long it is, and what it tells. Assumes nothing.
use mathlib.Core.Path.{◌≡◌, sym, ap, subst, ◌∙◌}
use mathlib.Core.Bool.{Bool, true, false}
use mathlib.Core.List.{List, [], ◌∷◌, ◌++◌, append_cancel_left, append_cancel_right}
use Prim.Native.Nat.{ℕ, ◌≤◌, ◌<◌}
use native.Mathlib.Omega.{arith}
use lib.Dec.{lit≤, lit<}
use lib.ListN.{length, length-append}
use Rattle.notation.specs.Ascii.{ascii}
use Rattle.notation.proofs.OptionLaws.{same_value}
use Rattle.digits.specs.Numerals.{text_number, decimal}
use Rattle.digits.proofs.NumeralLaws.{numeral_length, numeral_read}
use Rattle.output.specs.Placing.{Puts}
use Rattle.notes.specs.Notes.{note_text, note_room}
use Rattle.notes.proofs.Claims as notes
use Rattle.sheet_notes.specs.SheetNotes.{fault_line, refused_note}

abbrev short_note : List ℕ → ℕ → List ℕ
short_note name n = name ++ (ascii ": refused " ++ (decimal n ++ 10 ∷ []))

module _ (name : List ℕ) {explain : Bool} (n : ℕ) (t : List ℕ) where
  pub short_is : explain ≡ false → refused_note name explain n t ≡ short_note name n
  unfolding refused_note
  short_is e = rw e

  pub long_is : explain ≡ true → refused_note name explain n t ≡ note_text name (fault_line n t) n
  unfolding refused_note
  long_is e = rw e

-- as the code puts it
module _ {old new : List ℕ} {at next : ℕ} (name : List ℕ) {explain : Bool} (n : ℕ) (t : List ℕ) where
  pub puts_short : explain ≡ false → Puts old new at next (short_note name n) → Puts old new at next (refused_note name explain n t)
  puts_short e = subst (Puts old new at next) (sym (short_is name n t e))

  pub puts_long : explain ≡ true → (line : ℕ) → line ≡ fault_line n t → Puts old new at next (note_text name line n) → Puts old new at next (refused_note name explain n t)
  puts_long e line l = subst (Puts old new at next) (ap (λ k. note_text name k n) l ∙ sym (long_is name n t e))

-- no note is longer than the room for one
pub refused_most : (name : List ℕ) (explain : Bool) (n : ℕ) (t : List ℕ) → length (refused_note name explain n t) ≤ note_room name
unfolding refused_note ascii
refused_most name true n t = notes.note_most name (fault_line n t) n
refused_most name false n t = simp length-append (omega (arith, (numeral_length 10 3 n (lit≤ tt) (lit< tt) (lit≤ tt)).1))

-- ---- what it tells

module _ (name : List ℕ) (n n' : ℕ) (h : n < 1000) (h' : n' < 1000) (t t' : List ℕ) where
  pub one_number : refused_note name false n t ≡ refused_note name false n' t' → n ≡ n'
  unfolding refused_note
  one_number e =
      let same = append_cancel_right (decimal n) (decimal n') (10 ∷ []) (append_cancel_left (ascii ": refused ") _ _ (append_cancel_left name _ _ e)) in
      same_value (sym (numeral_read 10 3 n (lit≤ tt) (lit< tt) (lit≤ tt) h) ∙ ap (text_number 10) same ∙ numeral_read 10 3 n' (lit≤ tt) (lit< tt) (lit≤ tt) h')

  pub one_line : fault_line n t < 18446744073709551616 → fault_line n' t' < 18446744073709551616 → refused_note name true n t ≡ refused_note name true n' t'
      → (fault_line n t ≡ fault_line n' t') × (n ≡ n')
  unfolding refused_note
  one_line l l' e = notes.one_note name (fault_line n t) (fault_line n' t') n n' l l' h h' e
