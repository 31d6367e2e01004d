-- Four bytes as one number: what is computed of all together is computed of each. Assumes nothing.
use mathlib.Core.Path.{◌≡◌, refl, sym, ap, ap₂, ◌∙◌}
use mathlib.Core.Bool.{Bool, true, false, cond}
use mathlib.Core.List.{[], ◌∷◌, map}
use Prim.Native.Nat.{ℕ, suc, ◌+◌, ◌-◌, ◌*◌, ◌/◌, ◌%◌, ◌^◌, ◌≤◌, ◌<◌}
use native.Mathlib.Omega.{arith}
use borrow.Author.Tests.{lt-ltb}
use lib.Bits.{bit_and, bit_or, bit_xor, and_block, or_block, xor_block, and_le_r, or_lt, xor_lt}
use lib.Count.{count_trailing_zeros}
use lib.Dec.{ltb}
use Rattle.notation.specs.BigEndian.{number_of}
use Rattle.digits.specs.Numerals.{digit_of, digit_count}
use Rattle.digits.specs.Bytes.{bytes_of, flag_of, nibble_of}
use Rattle.digits.proofs.NumeralLaws.{agree, agreed}

-- ---- four bytes

-- as one number
abbrev quad_of : ℕ → ℕ → ℕ → ℕ → ℕ
quad_of a b c d = a + b * 256 + c * 65536 + d * 16777216

pub quad_bytes : (a b c d : ℕ) → a < 256 → b < 256 → c < 256 → d < 256 → bytes_of (quad_of a b c d) ≡ a ∷ b ∷ c ∷ d ∷ []
quad_bytes a b c d la lb lc ld =
    let x : quad_of a b c d / 256 ≡ b + c * 256 + d * 65536 = omega arith in
    let y : quad_of a b c d / 65536 ≡ c + d * 256 = omega arith in
    let z : quad_of a b c d / 16777216 ≡ d = omega arith in
    let p : quad_of a b c d % 256 ≡ a = omega arith in
    let q : quad_of a b c d / 256 % 256 ≡ b = rw x (omega arith) in
    let r : quad_of a b c d / 65536 % 256 ≡ c = rw y (omega arith) in
    let s : quad_of a b c d / 16777216 % 256 ≡ d = rw z (omega arith) in
    rw (p, q, r, s)

-- ---- what is computed of each byte

-- flags: the low bits, those of a letter in lower case, and the two tests
low_bits : ℕ → ℕ
low_bits x = bit_and x 127

lower_case : ℕ → ℕ
lower_case x = bit_or (low_bits x) 32

no_decimal : ℕ → ℕ
no_decimal x = bit_xor (175 - low_bits x) (low_bits x + 70)

is_letter : ℕ → ℕ
is_letter x = bit_xor (lower_case x + 31) (lower_case x + 25)

tests : ℕ → ℕ
tests x = bit_or (bit_xor (no_decimal x) (is_letter x)) x

flag_is : (x : ℕ) → x < 256 → bit_and (tests x) 128 ≡ flag_of x
unfolding agree tests no_decimal is_letter lower_case low_bits flag_of digit_of
flag_is = agreed 256 (λ x. bit_and (tests x) 128) flag_of refl

low_le : (x : ℕ) → low_bits x ≤ 127
unfolding low_bits
low_le x = and_le_r x 127

lower_lt : (x : ℕ) → lower_case x < 128
unfolding lower_case
lower_lt x = or_lt 7 (low_bits x) 32 (omega (arith, low_le x)) (omega arith)

decimal_lt : (x : ℕ) → no_decimal x < 256
unfolding no_decimal
decimal_lt x = let l = low_le x in xor_lt 8 (175 - low_bits x) (low_bits x + 70) (omega arith) (omega arith)

letter_lt : (x : ℕ) → is_letter x < 256
unfolding is_letter
letter_lt x = let l = lower_lt x in xor_lt 8 (lower_case x + 31) (lower_case x + 25) (omega arith) (omega arith)

tests_lt : (x : ℕ) → x < 256 → tests x < 256
unfolding tests
tests_lt x h = or_lt 8 (bit_xor (no_decimal x) (is_letter x)) x (xor_lt 8 (no_decimal x) (is_letter x) (decimal_lt x) (letter_lt x)) h

flag_lt : (x : ℕ) → flag_of x < 256
unfolding flag_of
flag_lt x = elim (ltb (digit_of x) 16) as (λ b. cond b 0 128 < 256) [ true ↦ omega arith | false ↦ omega arith ]

-- digits: the low bits, and what bit 6 tells
sixth : ℕ → ℕ
sixth x = bit_and x 64 / 64

sixth_is : (x : ℕ) → x < 256 → bit_and x 64 ≡ sixth x * 64
unfolding agree sixth
sixth_is = agreed 256 (λ x. bit_and x 64) (λ x. sixth x * 64) refl

sum : ℕ → ℕ
sum x = bit_and x 15 + sixth x * 9

sum_lt : (x : ℕ) → sum x < 256
unfolding sum sixth
sum_lt x = omega (arith, and_le_r x 15, and_le_r x 64)

sum_is : (x : ℕ) → x < 256 → bit_and (sum x) 15 ≡ nibble_of x
unfolding agree sum sixth nibble_of
sum_is = agreed 256 (λ x. bit_and (sum x) 15) nibble_of refl

pub nibble_lt : (x : ℕ) → nibble_of x < 16
unfolding nibble_of
nibble_lt x = omega arith

pub nibble_digit : (x : ℕ) → x < 256 → digit_of x < 16 → nibble_of x ≡ digit_of x
unfolding agree nibble_of digit_of
nibble_digit x h l = ap (λ b. cond b (nibble_of x) 16) (sym (lt-ltb (digit_of x) 16 l)) ∙ agreed 256 (λ x. cond (ltb (digit_of x) 16) (nibble_of x) 16) digit_of refl x h

-- ---- and of all four

-- as the code has it
unfoldable pub flags_code : ℕ → ℕ
flags_code w =
    bit_and
    (bit_or
    (bit_xor (bit_xor (2947526575 - bit_and w 2139062143) (bit_and w 2139062143 + 1179010630))
    (bit_xor (bit_or (bit_and w 2139062143) 538976288 + 522133279) (bit_or (bit_and w 2139062143) 538976288 + 421075225)))
    w)
    2155905152

unfoldable pub nibbles_code : ℕ → ℕ
nibbles_code w = bit_and (bit_and w 252645135 + bit_and w 1077952576 / 64 * 9) 252645135

unfoldable pub pairs_code : ℕ → ℕ
pairs_code v = (v * 16 + v / 256) % 256 * 256 + (v * 16 + v / 256) / 65536 % 256

lowest : (l m h : ℕ) → l < 256 → (l + m * 256 + h * 65536) % 256 ≡ l
lowest l m h k = omega arith

highest : (l m h : ℕ) → l < 256 → m < 256 → (l + m * 256 + h * 65536) / 65536 ≡ h
highest l m h k j = omega arith

-- f of a byte is a byte
abbrev Byte : (ℕ → ℕ) → Type 0
Byte f = (x : ℕ) → x < 256 → f x < 256

module _ (a b c d : ℕ) (la : a < 256) (lb : b < 256) (lc : c < 256) (ld : d < 256) where
  -- the four bytes that f makes of them
  abbrev each : (ℕ → ℕ) → ℕ
  each f = quad_of (f a) (f b) (f c) (f d)

  each_is : (f g : ℕ → ℕ) → ((x : ℕ) → x < 256 → f x ≡ g x) → each f ≡ each g
  each_is f g e = rw (e a la, e b lb, e c lc, e d ld)

  -- an operation on blocks of bits goes byte by byte
  module _ (op : ℕ → ℕ → ℕ) (block : (x y r s : ℕ) → r < 256 → s < 256 → op (x * 256 + r) (y * 256 + s) ≡ op x y * 256 + op r s) where
    bytewise : (f g : ℕ → ℕ) → Byte f → Byte g → op (each f) (each g) ≡ each (λ x. op (f x) (g x))
    bytewise f g lf lg =
        let x : each f ≡ ((f d * 256 + f c) * 256 + f b) * 256 + f a = omega arith in
        let y : each g ≡ ((g d * 256 + g c) * 256 + g b) * 256 + g a = omega arith in
        let z : ((op (f d) (g d) * 256 + op (f c) (g c)) * 256 + op (f b) (g b)) * 256 + op (f a) (g a) ≡ each (λ x. op (f x) (g x)) = omega arith in
        ap₂ op x y ∙ block ((f d * 256 + f c) * 256 + f b) ((g d * 256 + g c) * 256 + g b) (f a) (g a) (lf a la) (lg a la)
        ∙ ap (λ k. k * 256 + op (f a) (g a)) (block (f d * 256 + f c) (g d * 256 + g c) (f b) (g b) (lf b lb) (lg b lb)
        ∙ ap (λ k. k * 256 + op (f b) (g b)) (block (f d) (g d) (f c) (g c) (lf c lc) (lg c lc)))
        ∙ z

  and_each : (f : ℕ → ℕ) → Byte f → (m : ℕ) → m < 256 → bit_and (each f) (each (λ x. m)) ≡ each (λ x. bit_and (f x) m)
  and_each f lf m lm = bytewise bit_and (and_block 8) f (λ x. m) lf (λ x h. lm)

  -- flags
  decimals : bit_xor (2947526575 - each low_bits) (each low_bits + 1179010630) ≡ each no_decimal
  unfolding no_decimal
  decimals =
      let below : Byte (λ x. 175 - low_bits x) = λ x h. omega arith in
      let above : Byte (λ x. low_bits x + 70) = λ x h. omega (arith, low_le x) in
      let p : 2947526575 - each low_bits ≡ each (λ x. 175 - low_bits x) = omega (arith, low_le a, low_le b, low_le c, low_le d) in
      let q : each low_bits + 1179010630 ≡ each (λ x. low_bits x + 70) = omega arith in
      ap₂ bit_xor p q ∙ bytewise bit_xor (xor_block 8) (λ x. 175 - low_bits x) (λ x. low_bits x + 70) below above

  letters : bit_xor (each lower_case + 522133279) (each lower_case + 421075225) ≡ each is_letter
  unfolding is_letter
  letters =
      let from : Byte (λ x. lower_case x + 31) = λ x h. omega (arith, lower_lt x) in
      let above : Byte (λ x. lower_case x + 25) = λ x h. omega (arith, lower_lt x) in
      let p : each lower_case + 522133279 ≡ each (λ x. lower_case x + 31) = omega arith in
      let q : each lower_case + 421075225 ≡ each (λ x. lower_case x + 25) = omega arith in
      ap₂ bit_xor p q ∙ bytewise bit_xor (xor_block 8) (λ x. lower_case x + 31) (λ x. lower_case x + 25) from above

  flags_each : flags_code (each (λ x. x)) ≡ each flag_of
  unfolding flags_code tests lower_case low_bits
  flags_each =
      let low : Byte low_bits = λ x h. omega (arith, low_le x) in
      let x : bit_and (each (λ x. x)) 2139062143 ≡ each low_bits = and_each (λ x. x) (λ x h. h) 127 (omega arith) in
      let y : bit_or (each low_bits) 538976288 ≡ each lower_case = bytewise bit_or (or_block 8) low_bits (λ x. 32) low (λ x h. omega arith) in
      let both = bytewise bit_xor (xor_block 8) no_decimal is_letter (λ x h. decimal_lt x) (λ x h. letter_lt x) in
      let any = bytewise bit_or (or_block 8) (λ x. bit_xor (no_decimal x) (is_letter x)) (λ x. x) (λ x h. xor_lt 8 (no_decimal x) (is_letter x) (decimal_lt x) (letter_lt x)) (λ x h. h) in
      ap (λ x. bit_and (bit_or (bit_xor (bit_xor (2947526575 - x) (x + 1179010630)) (bit_xor (bit_or x 538976288 + 522133279) (bit_or x 538976288 + 421075225))) (each (λ x. x))) 2155905152) x
      ∙ ap (λ y. bit_and (bit_or (bit_xor (bit_xor (2947526575 - each low_bits) (each low_bits + 1179010630)) (bit_xor (y + 522133279) (y + 421075225))) (each (λ x. x))) 2155905152) y
      ∙ ap₂ (λ p q. bit_and (bit_or (bit_xor p q) (each (λ x. x))) 2155905152) decimals letters
      ∙ ap (λ z. bit_and (bit_or z (each (λ x. x))) 2155905152) both
      ∙ ap (λ z. bit_and z 2155905152) any
      ∙ and_each tests tests_lt 128 (omega arith)
      ∙ each_is (λ x. bit_and (tests x) 128) flag_of flag_is

  -- digits
  nibbles_each : nibbles_code (each (λ x. x)) ≡ each nibble_of
  unfolding nibbles_code sum
  nibbles_each =
      let low : bit_and (each (λ x. x)) 252645135 ≡ each (λ x. bit_and x 15) = and_each (λ x. x) (λ x h. h) 15 (omega arith) in
      let bit : bit_and (each (λ x. x)) 1077952576 ≡ each (λ x. sixth x * 64) = and_each (λ x. x) (λ x h. h) 64 (omega arith) ∙ each_is (λ x. bit_and x 64) (λ x. sixth x * 64) sixth_is in
      let bits : each (λ x. sixth x * 64) / 64 ≡ each sixth = omega arith in
      let sums : each (λ x. bit_and x 15) + each sixth * 9 ≡ each sum = omega arith in
      ap₂ (λ x y. bit_and (x + y / 64 * 9) 252645135) low bit
      ∙ ap (λ y. bit_and (each (λ x. bit_and x 15) + y * 9) 252645135) bits
      ∙ ap (λ z. bit_and z 252645135) sums
      ∙ and_each sum (λ x h. sum_lt x) 15 (omega arith)
      ∙ each_is (λ x. bit_and (sum x) 15) nibble_of sum_is

-- two digits to a byte, and of these the first and the third
pairs : (p q r s : ℕ) → p < 16 → q < 16 → r < 16 → s < 16 → pairs_code (quad_of p q r s) ≡ ((p * 16 + q) * 16 + r) * 16 + s
unfolding pairs_code
pairs p q r s lp lq lr ls =
    let h : quad_of p q r s / 256 ≡ q + r * 256 + s * 65536 = omega arith in
    let t : quad_of p q r s * 16 + quad_of p q r s / 256 ≡ p * 16 + q + (q * 16 + r) * 256 + (r * 16 + s + s * 4096) * 65536 = rw h (omega arith) in
    let v : (r * 16 + s + s * 4096) % 256 ≡ r * 16 + s = omega arith in
    let sum : (p * 16 + q) * 256 + (r * 16 + s) ≡ ((p * 16 + q) * 16 + r) * 16 + s = omega arith in
    ap₂ (λ x y. x * 256 + y)
    (ap (λ z. z % 256) t ∙ lowest (p * 16 + q) (q * 16 + r) (r * 16 + s + s * 4096) (omega arith))
    (ap (λ z. z / 65536 % 256) t ∙ ap (λ z. z % 256) (highest (p * 16 + q) (q * 16 + r) (r * 16 + s + s * 4096) (omega arith) (omega arith)) ∙ v)
    ∙ sum

-- ---- what the functions answer

module _ (w : ℕ) (h : w < 2 ^ 32) where
  four : w ≡ quad_of (w % 256) (w / 256 % 256) (w / 65536 % 256) (w / 16777216 % 256)
  four =
      let p : w / 65536 ≡ w / 256 / 256 = omega arith in
      let q : w / 16777216 ≡ w / 65536 / 256 = omega arith in
      let x : w / 256 ≡ w / 256 % 256 + w / 65536 * 256 = omega arith in
      let y : w / 65536 ≡ w / 65536 % 256 + w / 16777216 * 256 = omega arith in
      let z : w / 16777216 % 256 ≡ w / 16777216 = omega arith in
      omega arith

  pub flags_are : bytes_of (flags_code w) ≡ map flag_of (bytes_of w)
  flags_are =
      ap (λ w. bytes_of (flags_code w)) four
      ∙ ap bytes_of (flags_each (w % 256) (w / 256 % 256) (w / 65536 % 256) (w / 16777216 % 256) (omega arith) (omega arith) (omega arith) (omega arith))
      ∙ quad_bytes (flag_of (w % 256)) (flag_of (w / 256 % 256)) (flag_of (w / 65536 % 256)) (flag_of (w / 16777216 % 256))
      (flag_lt (w % 256)) (flag_lt (w / 256 % 256)) (flag_lt (w / 65536 % 256)) (flag_lt (w / 16777216 % 256))

  pub packed_is : pairs_code (nibbles_code w) ≡ number_of 16 (map nibble_of (bytes_of w))
  unfolding number_of
  packed_is =
      ap (λ w. pairs_code (nibbles_code w)) four
      ∙ ap pairs_code (nibbles_each (w % 256) (w / 256 % 256) (w / 65536 % 256) (w / 16777216 % 256) (omega arith) (omega arith) (omega arith) (omega arith))
      ∙ pairs (nibble_of (w % 256)) (nibble_of (w / 256 % 256)) (nibble_of (w / 65536 % 256)) (nibble_of (w / 16777216 % 256))
      (nibble_lt (w % 256)) (nibble_lt (w / 256 % 256)) (nibble_lt (w / 65536 % 256)) (nibble_lt (w / 16777216 % 256))
      ∙ omega arith

  -- the bytes tell the number
  bytes_quad : (p q r s : ℕ) → bytes_of w ≡ p ∷ q ∷ r ∷ s ∷ [] → w ≡ quad_of p q r s
  bytes_quad p q r s e =
      let i : w % 256 ≡ p = cc in
      let j : w / 256 % 256 ≡ q = cc in
      let k : w / 65536 % 256 ≡ r = cc in
      let l : w / 16777216 % 256 ≡ s = cc in
      four ∙ rw (i, j, k, l)

  -- the zeros below the first flag tell how many digits come before it
  pub count_is : (a b c d : ℕ) → bytes_of w ≡ map flag_of (a ∷ b ∷ c ∷ d ∷ []) → count_trailing_zeros 32 w / 8 ≡ digit_count 16 (a ∷ b ∷ c ∷ d ∷ [])
  unfolding flag_of digit_count count_trailing_zeros
  count_is a b c d e =
      ap (λ w. count_trailing_zeros 32 w / 8) (bytes_quad (flag_of a) (flag_of b) (flag_of c) (flag_of d) e)
      ∙ go (ltb (digit_of a) 16) (ltb (digit_of b) 16) (ltb (digit_of c) 16) (ltb (digit_of d) 16)
    where
      go : (f g h i : Bool) → count_trailing_zeros 32 (quad_of (cond f 0 128) (cond g 0 128) (cond h 0 128) (cond i 0 128)) / 8 ≡ cond f (suc (cond g (suc (cond h (suc (cond i 1 0)) 0)) 0)) 0
      go true true true true = refl
      go true true true false = refl
      go true true false true = refl
      go true true false false = refl
      go true false true true = refl
      go true false true false = refl
      go true false false true = refl
      go true false false false = refl
      go false true true true = refl
      go false true true false = refl
      go false true false true = refl
      go false true false false = refl
      go false false true true = refl
      go false false true false = refl
      go false false false true = refl
      go false false false false = refl
