-- The words of a note, how long it is, and what it tells. Assumes nothing.
use Rattle.std.specs.Prelude.{Option, Some, None}
use mathlib.Core.Path.{◌≡◌, refl, sym, ap, ◌∙◌}
use mathlib.Core.List.{List, [], ◌∷◌, ◌++◌, append_assoc, append_cancel_left}
use Prim.Native.Nat.{ℕ, suc, ◌≤◌, ◌<◌, ◌^◌}
use native.Mathlib.Omega.{arith}
use lib.Dec.{lit≤, lit<}
use lib.ListN.{length, take, drop, length-append}
use Rattle.notation.specs.Ascii.{ascii}
use Rattle.notation.specs.Pieces.{Lacks, index_of}
use Rattle.notation.proofs.OptionLaws.{same_value}
use Rattle.notation.proofs.SeparatedLaws.{seam}
use Rattle.address.specs.declared.Refusal.{Refusal}
use Rattle.address.specs.Answers.{missing, gives, refuses, write_answer, write_leaves}
use Rattle.address.proofs.Claims.{number_above_0, written_held, length_stays}
use Rattle.digits.specs.Numerals.{digit_of, text_number, numeral, decimal}
use Rattle.digits.proofs.NumeralLaws.{numeral_length, numeral_digits, numeral_read, no_digit}
use Rattle.words.specs.Words.{refusal_words, words_text, words_refusal}
use Rattle.words.proofs.Claims.{words_exactly, good_exactly, at_most_54}
use Rattle.notes.specs.Notes.{note_text, note_room}

-- ---- the words, as they are written to a buffer

module _ (n : ℕ) (old : List ℕ) where
  pub words_held : (k : ℕ) → gives k ≡ write_answer (words_refusal n) (words_text n) old → (left : List ℕ) → left ≡ write_leaves (words_refusal n) (words_text n) old
      → (take k left ≡ words_text n) × (k ≤ length left)
  words_held k e left l =
      let held = written_held (words_refusal n) (words_text n) old k (sym e) in
      (ap (take k) l ∙ held.0, omega (arith, held.2, ap length l, length_stays (words_refusal n) (words_text n) old))

  -- where any words have room, a number is refused only for want of words
  pub no_words : 54 ≤ length old → (x : Refusal) → refuses 0 x ≡ write_answer (words_refusal n) (words_text n) old → [] ≡ words_text n
  no_words room x e = go (refusal_words n) refl
    where
      go : (o : Option (List ℕ)) → refusal_words n ≡ o → [] ≡ words_text n
      go None m = rw m
      go (Some t) m =
          let known = (words_exactly n).0 (ap missing m) in
          let good = (good_exactly n old).1 (known.0, known.1, omega (arith, (at_most_54 n).0)) in
          absurd (omega (arith, number_above_0 x, ap (λ r. r.number) (e ∙ good)))

-- ---- how long a note is

pub note_most : (name : List ℕ) (line n : ℕ) → length (note_text name line n) ≤ note_room name
unfolding note_text
note_most name line n =
    simp length-append
    (omega (arith, (numeral_length 10 20 line (lit≤ tt) (lit< tt) (lit≤ tt)).1, (numeral_length 10 3 n (lit≤ tt) (lit< tt) (lit≤ tt)).1, (at_most_54 n).0))

-- ---- what a note tells

-- two texts that are the same are the same before the first byte b, and behind it
same_seam : (b : ℕ) (s t u v : List ℕ) → Lacks b s → Lacks b u → s ++ b ∷ t ≡ u ++ b ∷ v → (s ≡ u) × (t ≡ v)
same_seam b s t u v h k e =
    let left = seam b s t h in
    let right = seam b u v k in (
      sym left.1 ∙ ap (λ w. take (index_of b w) w) e ∙ right.1,
      sym left.2 ∙ ap (λ w. drop (suc (index_of b w)) w) e ∙ right.2,
    )

colon : digit_of 58 ≡ 16
unfolding digit_of
colon = refl

-- a number of k digits that stands before a colon is the one that is told
told : (k : ℕ) → 1 ≤ k → (m n : ℕ) → m < 10 ^ k → n < 10 ^ k → (t u : List ℕ) → numeral 10 k m ++ 58 ∷ t ≡ numeral 10 k n ++ 58 ∷ u → (m ≡ n) × (t ≡ u)
told k one m n h l t u e =
    let both = same_seam 58 (numeral 10 k m) t (numeral 10 k n) u (no_colon m) (no_colon n) e in
    (same_value (sym (read m h) ∙ ap (text_number 10) both.0 ∙ read n l), both.1)
  where
    no_colon : (n : ℕ) → Lacks 58 (numeral 10 k n)
    no_colon n = no_digit 10 58 (numeral 10 k n) (lit≤ tt) colon (numeral_digits 10 k n (lit≤ tt) (lit< tt) one).all

    read : (n : ℕ) → n < 10 ^ k → text_number 10 (numeral 10 k n) ≡ Some n
    read n = numeral_read 10 k n (lit≤ tt) (lit< tt) one

pub one_note : (name : List ℕ) (line line' n n' : ℕ) → line < 10 ^ 20 → line' < 10 ^ 20 → n < 1000 → n' < 1000
    → note_text name line n ≡ note_text name line' n' → (line ≡ line') × (n ≡ n')
unfolding note_text ascii
one_note name line line' n n' h h' l l' e =
    let first = told 20 (lit≤ tt) line line' h h' _ _ (append_cancel_left (ascii ":") _ _ (append_cancel_left name _ _ e)) in
    let second = told 3 (lit≤ tt) n n' l l' _ _ (append_cancel_left (ascii " refused ") _ _ first.1) in
    (first.0, second.0)

-- ---- its end

pub note_ends : (name : List ℕ) (line n : ℕ) → (front : List ℕ) × (note_text name line n ≡ front ++ (ascii ": " ++ (words_text n ++ 10 ∷ [])))
unfolding note_text
note_ends name line n =
    (name ++ (ascii ":" ++ (numeral 10 20 line ++ (ascii ": refused " ++ decimal n))), simp append_assoc)
