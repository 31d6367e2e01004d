-- Octets, sizes and groups: what the rules have is what is read, and octets and sizes have one spelling. Assumes nothing.
use Rattle.std.specs.Prelude.{Some, None}
use mathlib.Core.Path.{◌≡◌, refl, sym, ap, ap₂, subst, subst₂, ◌∙◌}
use mathlib.Core.Bool.{Bool, true, false, cond, ◌||◌}
use mathlib.Core.List.{List, [], ◌∷◌, map}
use Prim.Native.Nat.{ℕ, ◌+◌, ◌*◌, ◌≤◌}
use native.Mathlib.Decide.{dec_le}
use native.Mathlib.Omega.{arith}
use borrow.Author.Tests.{le-leb, lt-leb, le-ltb, ltb-false, ne_eqb, eqb-false}
use lib.Dec.{ltb, lit≤, lit<}
use lib.ListN.{length}
use Rattle.notation.proofs.OptionLaws.{impossible}
use Rattle.digits.specs.Numerals.{all_digits, text_number, at_most, leading_zero, part_of, group_of, numeral, decimal, lower}
use Rattle.digits.proofs.OneSpellingLaws.{numeral_spelling}
use Rattle.digits.proofs.FirstPieceLaws.{at_most_says}
use Rattle.grammar.specs.Rfc3986.{DIGIT, DigitString, one, and_one, dec-octet, 0-9, 10-99, 100-199, 200-249, 250-255, h16, 1*4HEXDIG}
use Rattle.grammar.specs.NetworkForm.{SizePart, one_to_three, only_0}
use Rattle.grammar.proofs.DigitStringLaws.{digit_value, byte, bounds, all_cons, is_digit, same_10, same_16, digits_all, digits_value, digits_read, reads_digits, Short, one_digit, two_digits, three_digits, short}

-- ---- sizes

pub first_not_0 : (c : ℕ) (t : List ℕ) → 49 ≤ c → leading_zero (c ∷ t) ≡ false
unfolding leading_zero
first_not_0 c [] h = refl
first_not_0 c (d ∷ t) h = ne_eqb c 48 (omega arith)

-- a size of at most m is read as a part of at most m
pub size_reads : (m : ℕ) {t : List ℕ} {x : ℕ} → SizePart t x → x ≤ m → part_of m t ≡ Some x
unfolding part_of
size_reads m (one_to_three {c} {t} {n} h g l) k = rw (first_not_0 c t h, le-ltb 3 (length (c ∷ t)) l, digits_read same_10 g, le-leb n m k)
size_reads m only_0 k = zero_reads
  where
    zero_reads : at_most m (text_number 10 (48 ∷ [])) ≡ Some 0
    zero_reads = rw (digits_read same_10 (one (byte 48 (omega arith) (omega arith))), le-leb 0 m k)

-- the first of some digits
pub first_byte : (c : ℕ) (t : List ℕ) (n : ℕ) → DigitString 10 DIGIT (c ∷ t) n → 48 ≤ c
first_byte c t n g = (bounds (is_digit c (all_cons 10 c t (digits_all same_10 g).all).0)).0

-- digits that do not begin with 0, or 0 itself
size_of : (t : List ℕ) (n : ℕ) → leading_zero t ≡ false → length t ≤ 3 → DigitString 10 DIGIT t n → SizePart t n
unfolding leading_zero
size_of [] n h l g = absurd (omega (arith, (digits_all same_10 g).any))
size_of (c ∷ []) n h l g = elim (dec_le 49 c) [
  | yes k ↦ one_to_three k g l
  | no k ↦
      let z : c ≡ 48 = omega (arith, first_byte c [] n g) in
      let none_else : 0 ≡ n = alone (short g l) z in
      subst (λ t. SizePart t n) (ap (λ (b : ℕ). b ∷ []) (sym z)) (subst (SizePart (48 ∷ [])) none_else only_0)
]
  where
    alone : {c n : ℕ} → Short (c ∷ []) n → c ≡ 48 → 0 ≡ n
    alone (one_digit h) z = let b = bounds h in omega arith
size_of (c ∷ d ∷ t) n h l g = one_to_three {c = c} (let b = first_byte c (d ∷ t) n g in let z = eqb-false c 48 h in omega arith) g l

pub reads_size : (m : ℕ) (t : List ℕ) (x : ℕ) → part_of m t ≡ Some x → SizePart t x × (x ≤ m)
unfolding part_of
reads_size m t x e = go (leading_zero t) refl (ltb 3 (length t)) refl e
  where
    go : (p : Bool) → leading_zero t ≡ p → (q : Bool) → ltb 3 (length t) ≡ q → cond (p || q) None (at_most m (text_number 10 t)) ≡ Some x → SizePart t x × (x ≤ m)
    go true l q s k = impossible k
    go false l true s k = impossible k
    go false l false s k = let a = at_most_says m x (text_number 10 t) k in (size_of t x l (ltb-false 3 (length t) s) (reads_digits same_10 t x a.0), a.1)

pub size_999 : {t : List ℕ} {n : ℕ} → SizePart t n → n ≤ 999
size_999 (one_to_three h g l) = go (short g l)
  where
    go : {t : List ℕ} {n : ℕ} → Short t n → n ≤ 999
    go (one_digit d) = omega (arith, (digit_value d).1)
    go (two_digits d e) = omega (arith, (digit_value d).1, (digit_value e).1)
    go (three_digits d e f) = omega (arith, (digit_value d).1, (digit_value e).1, (digit_value f).1)
size_999 only_0 = omega arith

-- ---- octets

-- an octet is a size of at most 255
octet_digits : {c : ℕ} {t : List ℕ} {m n : ℕ} → DigitString 10 DIGIT (c ∷ t) m → 49 ≤ c → length (c ∷ t) ≤ 3 → m ≡ n → n ≤ 255 → SizePart (c ∷ t) n × (n ≤ 255)
octet_digits {c} {t} {m} {n} g h l e k = (subst (SizePart (c ∷ t)) e (one_to_three h g l), k)

octet_size : {t : List ℕ} {x : ℕ} → dec-octet t x → SizePart t x × (x ≤ 255)
octet_size (0-9 {c} {z} h) =
    let b = bounds h in
    elim (dec_le 49 c) [
      | yes k ↦ octet_digits (one h) k (omega arith) refl (omega arith)
      | no k ↦ (subst₂ SizePart (ap (λ (n : ℕ). n ∷ []) (let e : 48 ≡ c = omega arith in e)) (let e : 0 ≡ z = omega arith in e) only_0, omega arith)
    ]
octet_size (10-99 {b} {c} {z} h l e) =
    let w = digit_value e in
    octet_digits (and_one (one (byte b (omega arith) l)) e) h (omega arith) (omega arith) (omega arith)
octet_size (100-199 {b} {c} {y} {z} d e) =
    let v = digit_value d in
    let w = digit_value e in
    octet_digits (and_one (and_one (one (byte 49 (omega arith) (omega arith))) d) e) (omega arith) (omega arith) (omega arith) (omega arith)
octet_size (200-249 {b} {c} {z} h l e) =
    let w = digit_value e in
    octet_digits (and_one (and_one (one (byte 50 (omega arith) (omega arith))) (byte b h (omega arith))) e) (omega arith) (omega arith) (omega arith) (omega arith)
octet_size (250-255 {c} h l) =
    octet_digits (and_one (and_one (one (byte 50 (omega arith) (omega arith))) (byte 53 (omega arith) (omega arith))) (byte c h (omega arith))) (omega arith) (omega arith) (omega arith) (omega arith)

-- and a size of at most 255 is an octet
three_octet : {a b c x y z : ℕ} → DIGIT a x → DIGIT b y → DIGIT c z → 49 ≤ a → 100 * x + 10 * y + z ≤ 255 → dec-octet (a ∷ b ∷ c ∷ []) (100 * x + 10 * y + z)
three_octet {a} {b} {c} {x} {y} {z} g h k f m =
    let p = bounds g in
    let q = bounds h in
    let r = bounds k in
    elim (dec_le a 49) [
      | yes i ↦
          let first : a ≡ 49 = omega arith in
          rw first (subst (dec-octet (49 ∷ b ∷ c ∷ [])) (omega arith) (100-199 h k))
      | no i ↦
          let first : a ≡ 50 = omega arith in
          elim (dec_le b 52) [
            | yes j ↦ rw first (subst (dec-octet (50 ∷ b ∷ c ∷ [])) (omega arith) (200-249 {b = b} q.0 j k))
            | no j ↦
                let second : b ≡ 53 = omega arith in
                rw (first, second) (subst (dec-octet (50 ∷ 53 ∷ c ∷ [])) (omega arith) (250-255 {c = c} r.0 (omega arith)))
          ]
    ]

size_octet : {t : List ℕ} {x : ℕ} → SizePart t x → x ≤ 255 → dec-octet t x
size_octet (one_to_three {c} h g l) m = go (short g l) h m
  where
    go : {c : ℕ} {t : List ℕ} {n : ℕ} → Short (c ∷ t) n → 49 ≤ c → n ≤ 255 → dec-octet (c ∷ t) n
    go (one_digit d) h m = 0-9 d
    go (two_digits {b} {c} {y} {z} d e) h m = let p = bounds d in subst (dec-octet (b ∷ c ∷ [])) (omega arith) (10-99 {b = b} h p.1 e)
    go (three_digits d e f) h m = three_octet d e f h m
size_octet only_0 m = 0-9 (byte 48 (omega arith) (omega arith))

pub octet_reads : {t : List ℕ} {x : ℕ} → dec-octet t x → part_of 255 t ≡ Some x
octet_reads h = let s = octet_size h in size_reads 255 s.0 s.1

pub reads_octet : (t : List ℕ) (x : ℕ) → part_of 255 t ≡ Some x → dec-octet t x
reads_octet t x e = let s = reads_size 255 t x e in size_octet s.0 s.1

-- ---- groups

pub h16_reads : {t : List ℕ} {x : ℕ} → h16 t x → group_of t ≡ Some x
unfolding group_of
h16_reads (1*4HEXDIG {t} g l) = rw (le-ltb 4 (length t) l) (digits_read same_16 g)

pub reads_h16 : (t : List ℕ) (x : ℕ) → group_of t ≡ Some x → h16 t x
unfolding group_of
reads_h16 t x e = go (ltb 4 (length t)) refl e
  where
    go : (q : Bool) → ltb 4 (length t) ≡ q → cond q None (text_number 16 t) ≡ Some x → h16 t x
    go true s k = impossible k
    go false s k = 1*4HEXDIG (reads_digits same_16 t x k) (ltb-false 4 (length t) s)

-- ---- one spelling

pub decimal_lower : (t : List ℕ) → all_digits 10 t ≡ true → map lower t ≡ t
unfolding lower
decimal_lower [] e = refl
decimal_lower (c ∷ t) e =
    let a = all_cons 10 c t e in
    let b = bounds (is_digit c a.0) in
    ap₂ (λ (d : ℕ) r. d ∷ r) (rw (lt-leb 65 c (omega arith))) (decimal_lower t a.1)

pub size_spelling : {t : List ℕ} {n : ℕ} → SizePart t n → decimal n ≡ t
unfolding numeral
size_spelling (one_to_three {c} {t} {n} h g l) =
    let d = digits_all same_10 g in
    ap decimal (sym (digits_value same_10 g)) ∙ numeral_spelling 10 3 (lit≤ tt) (lit< tt) (c ∷ t) d l (first_not_0 c t h) (decimal_lower (c ∷ t) d.all)
size_spelling only_0 = refl

pub octet_spelling : {t : List ℕ} {x : ℕ} → dec-octet t x → decimal x ≡ t
octet_spelling h = size_spelling (octet_size h).0
