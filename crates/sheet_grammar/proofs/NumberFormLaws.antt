-- The numbers of a line: what the rule has is what is read, and a number has one spelling. Assumes nothing.
use Rattle.std.specs.Prelude.{Some}
use mathlib.Core.Path.{◌≡◌, refl, sym, subst, ◌∙◌}
use mathlib.Core.Bool.{false}
use mathlib.Core.List.{List, [], ◌∷◌}
use Prim.Native.Nat.{ℕ, ◌+◌, ◌^◌, ◌≤◌, ◌<◌}
use native.Mathlib.Decide.{dec_le}
use native.Mathlib.Omega.{arith}
use borrow.Author.Tests.{le-leb, eqb-false}
use lib.Dec.{lit≤, lit<}
use lib.ListN.{length}
use Rattle.notation.proofs.OptionLaws.{same_value}
use Rattle.digits.specs.Numerals.{leading_zero, numeral, text_number}
use Rattle.digits.proofs.FirstPieceLaws.{at_most_says}
use Rattle.digits.proofs.NumeralLaws.{numeral_leading, numeral_read}
use Rattle.digits.proofs.Claims.{numeral_spelling}
use Rattle.grammar.specs.Rfc3986.{DIGIT, DigitString, one}
use Rattle.grammar.proofs.DigitStringLaws.{byte, same_10, digits_all, digits_read, reads_digits}
use Rattle.grammar.proofs.NumberLaws.{first_not_0, first_byte, decimal_lower}
use Rattle.sheet_lines.specs.Lines.{number_to}
use Rattle.sheet_lines.proofs.FieldLaws.{number_says, number_rest}
use Rattle.sheet_grammar.specs.SheetForm.{PlainNumber, no_leading_0, only_0}

-- ---- digits without a leading zero

plain_leading : {t : List ℕ} {n : ℕ} → PlainNumber t n → leading_zero t ≡ false
unfolding leading_zero
plain_leading (no_leading_0 {c} {t} h g) = first_not_0 c t (omega arith)
plain_leading only_0 = refl

plain_digits : {t : List ℕ} {n : ℕ} → PlainNumber t n → DigitString 10 DIGIT t n
plain_digits (no_leading_0 h g) = g
plain_digits only_0 = one (byte 48 (omega arith) (omega arith))

zero_alone : {n : ℕ} → DigitString 10 DIGIT (48 ∷ []) n → 0 ≡ n
zero_alone g = same_value (sym (digits_read same_10 (plain_digits only_0)) ∙ digits_read same_10 g)

digits_plain : (t : List ℕ) (n : ℕ) → leading_zero t ≡ false → DigitString 10 DIGIT t n → PlainNumber t n
unfolding leading_zero
digits_plain [] n h g = absurd (omega (arith, (digits_all same_10 g).any))
digits_plain (c ∷ []) n h g = elim (dec_le 49 c) [
  | yes k ↦ no_leading_0 {c = c} (omega arith) g
  | no k ↦
      let z : 48 ≡ c = omega (arith, first_byte c [] n g, k) in
      let alone : 0 ≡ n = zero_alone (subst (λ (b : ℕ). DigitString 10 DIGIT (b ∷ []) n) (sym z) g) in
      subst (λ (b : ℕ). PlainNumber (b ∷ []) n) z (subst (PlainNumber (48 ∷ [])) alone only_0)
]
digits_plain (c ∷ d ∷ t) n h g = no_leading_0 {c = c} (let b = first_byte c (d ∷ t) n g in let z = eqb-false c 48 h in omega arith) g

-- ---- read

pub plain_reads : (m : ℕ) {t : List ℕ} {n : ℕ} → PlainNumber t n → n ≤ m → number_to m t ≡ Some n
plain_reads m {t} {n} p l = number_rest m t (plain_leading p) ∙ rw (digits_read same_10 (plain_digits p), le-leb n m l)

pub reads_plain : (m : ℕ) (t : List ℕ) (n : ℕ) → number_to m t ≡ Some n → PlainNumber t n × (n ≤ m)
reads_plain m t n e =
    let (read, lead) = number_says m t n e in
    let (number, most) = at_most_says m n (text_number 10 t) read in
    (digits_plain t n lead (reads_digits same_10 t n number), most)

pub one_value : {t : List ℕ} {m n : ℕ} → PlainNumber t m → PlainNumber t n → m ≡ n
one_value p q = same_value (sym (digits_read same_10 (plain_digits p)) ∙ digits_read same_10 (plain_digits q))

-- ---- written

-- a number has one spelling of at most k digits
plain_spelling : (k : ℕ) {t : List ℕ} {n : ℕ} → PlainNumber t n → length t ≤ k → numeral 10 k n ≡ t
plain_spelling k {t} {n} p l =
    let g = plain_digits p in
    numeral_spelling 10 k (lit≤ tt) (lit< tt) t n (digits_read same_10 g) l (plain_leading p) (decimal_lower t (digits_all same_10 g).all)

-- so it has one of any number
pub one_spelling : {t u : List ℕ} {n : ℕ} → PlainNumber t n → PlainNumber u n → t ≡ u
one_spelling {t} {u} p q = sym (plain_spelling (length t + length u) p (omega arith)) ∙ plain_spelling (length t + length u) q (omega arith)

-- which is the one that is written
pub numeral_plain : (k n : ℕ) → 1 ≤ k → n < 10 ^ k → PlainNumber (numeral 10 k n) n
numeral_plain k n h l =
    digits_plain (numeral 10 k n) n (numeral_leading 10 k n (lit≤ tt) (lit< tt) h) (reads_digits same_10 (numeral 10 k n) n (numeral_read 10 k n (lit≤ tt) (lit< tt) h l))
