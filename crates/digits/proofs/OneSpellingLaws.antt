-- A number has one numeral: digits in lower case with no leading zero are the numeral of the number that they write. Assumes nothing.
use mathlib.Core.Path.{◌≡◌, refl, sym, ap, ap₂, ◌∙◌}
use mathlib.Core.Bool.{false, cond, false≢true}
use mathlib.Core.List.{List, [], ◌∷◌, ◌++◌, map}
use Prim.Native.Nat.{ℕ, zero, suc, ◌+◌, ◌-◌, ◌*◌, ◌^◌, ◌≤◌, ◌<◌}
use native.Mathlib.Nat.{zero-mul}
use native.Mathlib.Decide.{dec_lt}
use native.Mathlib.Omega.{arith}
use borrow.Author.Tests.{lt-ltb, le-leb, lt-leb, eq-eqb}
use lib.Dec.{ltb, eqb}
use lib.ListN.{length, replicate, length-map}
use Rattle.notation.specs.BigEndian.{AllBelow, digits_of, number_of}
use Rattle.notation.proofs.DigitLaws.{digits_split, digits_zero, number_digits, number_lt}
use Rattle.digits.specs.Numerals.{digit_of, leading_zero, digit_byte, trimmed, numeral, lower}
use Rattle.digits.proofs.NumeralLaws.{agree, agreed, Digits, digit_values, lower_same}

-- ---- digits

-- the byte of a digit's value is the digit in lower case
digit_again : (c : ℕ) → digit_of c < 16 → digit_byte (digit_of c) ≡ lower c
unfolding agree digit_of digit_byte lower
digit_again c h = elim (dec_lt c 103) [
  | yes l ↦ ap (λ b. cond b (digit_byte (digit_of c)) (lower c)) (sym (lt-ltb (digit_of c) 16 h)) ∙ agreed 103 (λ c. cond (ltb (digit_of c) 16) (digit_byte (digit_of c)) (lower c)) lower refl c l
  | no n ↦ let none : digit_of c ≡ 16 = rw (le-leb 48 c (omega arith), lt-leb c 57 (omega arith), le-leb 65 c (omega arith), lt-leb c 70 (omega arith), le-leb 97 c (omega arith), lt-leb c 102 (omega arith)) in absurd (omega arith)
]

digits_again : (base : ℕ) → base ≤ 16 → (t : List ℕ) → AllBelow base (map digit_of t) → map digit_byte (map digit_of t) ≡ map lower t
digits_again base h [] l = refl
digits_again base h (c ∷ t) l = ap₂ (λ (b : ℕ) r. b ∷ r) (digit_again c (omega (arith, l.0))) (digits_again base h t l.1)

-- only the byte `0` is the digit 0
not_zero : (c : ℕ) → digit_of c < 16 → eqb c 48 ≡ false → 0 < digit_of c
unfolding digit_byte
not_zero c h n = elim (dec_lt 0 (digit_of c)) [
  | yes l ↦ l
  | no l ↦
      let z : digit_of c ≡ 0 = omega arith in
      let is : lower c ≡ 48 = sym (digit_again c h) ∙ ap digit_byte z in
      absurd (false≢true (sym n ∙ sym (lower_same 48 c (omega arith)) ∙ eq-eqb (lower c) 48 is))
]

-- ---- zeros before digits

-- a number of fewer digits has zeros before them
padded : (base k : ℕ) (ds : List ℕ) → 0 < base → AllBelow base ds → length ds ≤ k → digits_of base k (number_of base ds) ≡ replicate (k - length ds) 0 ++ ds
padded base k ds pos small most =
    let n = length ds in
    let m = k - n in
    let count : k ≡ m + n = omega arith in
    let value : number_of base ds ≡ 0 * base ^ n + number_of base ds = omega (arith, zero-mul (base ^ n)) in
    ap₂ (digits_of base) count value
    ∙ digits_split base pos m n 0 (number_of base ds) (number_lt base ds small)
    ∙ ap₂ (λ p q. p ++ q) (digits_zero base m) (number_digits base pos ds small)

-- and these are left out
zeros_out : (m d : ℕ) (ds : List ℕ) → trimmed (replicate m 0 ++ (d ∷ ds)) ≡ trimmed (d ∷ ds)
unfolding trimmed
zeros_out zero d ds = refl
zeros_out (suc zero) d ds = refl
zeros_out (suc (suc m)) d ds = zeros_out (suc m) d ds

kept_digits : (d : ℕ) (e : ℕ) (ds : List ℕ) → 0 < d → trimmed (d ∷ e ∷ ds) ≡ d ∷ e ∷ ds
unfolding trimmed
kept_digits zero e ds h = absurd (omega arith)
kept_digits (suc d) e ds h = refl

-- ---- numerals

module _ (base k : ℕ) (h : base ≤ 16) (pos : 0 < base) where
  trimmed_is : (t : List ℕ) → Digits base t → length t ≤ k → leading_zero t ≡ false → trimmed (digits_of base k (number_of base (map digit_of t))) ≡ map digit_of t
  unfolding trimmed leading_zero
  trimmed_is [] d l z = absurd (omega (arith, d.any))
  trimmed_is (c ∷ []) d l z =
      let small = digit_values base (c ∷ []) d.all in
      ap trimmed (padded base k (digit_of c ∷ []) pos small l) ∙ zeros_out (k - 1) (digit_of c) []
  trimmed_is (c ∷ e ∷ t) d l z =
      let small = digit_values base (c ∷ e ∷ t) d.all in
      let long = length-map (c ∷ e ∷ t) digit_of in
      ap trimmed (padded base k (map digit_of (c ∷ e ∷ t)) pos small (omega arith))
      ∙ zeros_out (k - length (map digit_of (c ∷ e ∷ t))) (digit_of c) (map digit_of (e ∷ t))
      ∙ kept_digits (digit_of c) (digit_of e) (map digit_of t) (not_zero c (omega (arith, small.0)) z)

  pub numeral_spelling : (t : List ℕ) → Digits base t → length t ≤ k → leading_zero t ≡ false → map lower t ≡ t → numeral base k (number_of base (map digit_of t)) ≡ t
  unfolding numeral
  numeral_spelling t d l z e = ap (map digit_byte) (trimmed_is t d l z) ∙ digits_again base h t (digit_values base t d.all) ∙ e
