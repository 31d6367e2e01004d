-- The line of an entry: its bytes, and how many they are. Assumes nothing.
use mathlib.Core.Path.{◌≡◌}
use mathlib.Core.List.{[], ◌∷◌, ◌++◌, append_assoc}
use Prim.Native.Nat.{ℕ, ◌+◌, ◌/◌, ◌%◌, ◌^◌, ◌≤◌, ◌<◌}
use native.Mathlib.Omega.{arith}
use lib.Dec.{lit<, lit≤}
use lib.ListN.{length, length-append}
use Rattle.digits.specs.Numerals.{numeral, digit_byte}
use Rattle.digits.proofs.NumeralLaws.{numeral_length, numeral_leading, numeral_lower, numeral_read}
use Rattle.digits.proofs.Claims.{numeral_spelling}
use Rattle.normal.specs.Normal.{normal_text}
use Rattle.normal.proofs.BoundLaws.{text_most}
use Rattle.output.proofs.WriteLaws.{numeral_written, decimal_byte}
use Rattle.sheet_lines.specs.declared.Entry.{Entry}
use Rattle.sheet_lines.specs.Lines.{entry_line, IsEntry}
use Rattle.sheet_lines.specs.Inner.{digit_at}

-- as the code puts a number
pub digits_are : (n : ℕ) → n < 2 ^ 32
    → digit_at 1000000000 n ++ (digit_at 100000000 n ++ (digit_at 10000000 n ++ (digit_at 1000000 n ++ (digit_at 100000 n ++ (digit_at 10000 n ++ (digit_at 1000 n ++ (digit_at 100 n ++ (digit_at 10 n ++ (48 + n % 10) ∷ []))))))))
    ≡ numeral 10 10 n
digits_are n h =
    let byte : (d : ℕ) → digit_byte (d % 10) ≡ 48 + d % 10 = λ d. decimal_byte (d % 10) (omega arith) in
    let top : n / 1000000000 % 10 ≡ n / 1000000000 = omega arith in
    rw (
      ← byte (n / 1000000000),
      ← byte (n / 100000000),
      ← byte (n / 10000000),
      ← byte (n / 1000000),
      ← byte (n / 100000),
      ← byte (n / 10000),
      ← byte (n / 1000),
      ← byte (n / 100),
      ← byte (n / 10),
      ← byte n,
      top,
    ) (numeral_written 10 (lit< tt) 8 n (omega arith))

-- a number of k digits is written with no more
number_most : (k n : ℕ) → 1 ≤ k → k ≤ 10 → n < 10 ^ k → length (numeral 10 10 n) ≤ k
number_most k n one few small =
    let long = numeral_length 10 k n (lit≤ tt) (lit< tt) one in
    let read = numeral_read 10 k n (lit≤ tt) (lit< tt) one small in
    let same = numeral_spelling 10 10 (lit≤ tt) (lit< tt) (numeral 10 k n) n read (omega arith) (numeral_leading 10 k n (lit≤ tt) (lit< tt) one) (numeral_lower 10 k n (lit≤ tt) (lit< tt) one) in
    rw same long.1

module _ (e : Entry) where
  -- as the code puts them, one after the other
  pub line_bytes : entry_line e ≡ normal_text e.address ++ (44 ∷ (numeral 10 10 e.volume ++ (44 ∷ (numeral 10 10 e.ph ++ 10 ∷ []))))
  unfolding entry_line
  line_bytes = simp append_assoc

  -- "At most 39 bytes", a comma, six digits, a comma, four digits and a newline
  pub line_most : IsEntry e → length (entry_line e) ≤ 52
  line_most is =
      let a = normal_text e.address in
      let v = numeral 10 10 e.volume in
      let p = numeral 10 10 e.ph in
      rw line_bytes
      (omega (
        arith,
        text_most e.address,
        number_most 6 e.volume (lit≤ tt) (lit≤ tt) (omega (arith, is.volume)),
        number_most 4 e.ph (lit≤ tt) (lit≤ tt) (omega (arith, is.ph)),
        length-append a (44 ∷ (v ++ (44 ∷ (p ++ 10 ∷ [])))),
        length-append v (44 ∷ (p ++ 10 ∷ [])),
        length-append p (10 ∷ []),
      ))
