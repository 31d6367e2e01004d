-- What is claimed of numbers in text: digits that are read, and numerals (01, "Strict text" and "Normal text"). Assumes nothing.
use Rattle.std.specs.Prelude.{Option, Some, None}
use mathlib.Core.Path.{◌≡◌, sym, ap, ◌∙◌}
use mathlib.Core.Bool.{true, false, ◌&&◌, ◌||◌}
use mathlib.Core.List.{List, map}
use Prim.Native.Nat.{ℕ, ◌^◌, ◌≤◌, ◌<◌}
use lib.Dec.{eqb}
use lib.ListN.{length, get_or}
use Rattle.notation.specs.BigEndian.{number_of}
use Rattle.notation.proofs.OptionLaws.{same_value}
use Rattle.digits.specs.Numerals.{digit_of, all_digits, text_number, leading_zero, part_of, group_of, hex_marked, leading, numeral, decimal, hex, lower}
use Rattle.digits.proofs.NumeralLaws as numerals
use Rattle.digits.proofs.OneSpellingLaws as spelling
use Rattle.digits.proofs.FirstPieceLaws as pieces
use Rattle.digits.proofs.MarkLaws as marks

-- ---- numerals

-- The numeral of a number, with room for k digits: one to k digits of the base, "lower case, no leading zeros", which are read as the number.
module _ (base k n : ℕ) (h : base ≤ 16) (pos : 0 < base) (one : 1 ≤ k) where
  pub numeral_length : (1 ≤ length (numeral base k n)) × (length (numeral base k n) ≤ k)
  numeral_length = numerals.numeral_length base k n h pos one

  pub numeral_digits : all_digits base (numeral base k n) ≡ true
  numeral_digits = (numerals.numeral_digits base k n h pos one).all

  pub numeral_lower : map lower (numeral base k n) ≡ numeral base k n
  numeral_lower = numerals.numeral_lower base k n h pos one

  pub numeral_leading : leading_zero (numeral base k n) ≡ false
  numeral_leading = numerals.numeral_leading base k n h pos one

  pub numeral_read : n < base ^ k → text_number base (numeral base k n) ≡ Some n
  numeral_read = numerals.numeral_read base k n h pos one

-- There is no other text of at most k digits in lower case with no leading zero that is read as the number.
pub numeral_spelling : (base k : ℕ) → base ≤ 16 → 0 < base → (t : List ℕ) (n : ℕ) → text_number base t ≡ Some n
    → length t ≤ k → leading_zero t ≡ false → map lower t ≡ t → numeral base k n ≡ t
numeral_spelling base k h pos t n e short lead low =
    let d = numerals.read_digits base t n e in
    let is : number_of base (map digit_of t) ≡ n = same_value (sym (numerals.read_number base t d) ∙ e) in
    ap (numeral base k) (sym is) ∙ spelling.numeral_spelling base k h pos t d short lead low

-- ---- parts and groups

-- "A part is 0 to 255 in decimal digits with no leading zero": the decimal of a number is a part, and is read as the number; and so is a
-- size, up to its own limit m.
pub decimal_part : (m n : ℕ) → n ≤ m → n < 1000 → part_of m (decimal n) ≡ Some n
decimal_part = numerals.decimal_part

pub part_most : (m : ℕ) (t : List ℕ) (n : ℕ) → part_of m t ≡ Some n → n ≤ m
part_most = pieces.part_most

-- "one to four hex digits": the hex digits of a number are a group, and are read as the number.
pub hex_group : (n : ℕ) → n < 65536 → group_of (hex n) ≡ Some n
hex_group = numerals.hex_group

pub group_most : (t : List ℕ) (n : ℕ) → group_of t ≡ Some n → n < 65536
group_most t n e = (numerals.group_digits t n e).1

-- "either case": a digit has the same value in lower case.
pub either_case : (c : ℕ) → digit_of (lower c) ≡ digit_of c
either_case = numerals.lower_digit

-- ---- a whole text of digits

-- "The text after the slash is read as a part of its own": what is read of all the digits that a text begins with tells what the whole text
-- is read as, by any f that reads nothing but digits: the same where they are the whole text, else nothing.
module _ (base : ℕ) (f : List ℕ → Option ℕ) (only : (p : List ℕ) (v : ℕ) → f p ≡ Some v → all_digits base p ≡ true) (t : List ℕ) where
  pub whole_nothing : None ≡ leading base f t → f t ≡ None
  whole_nothing = pieces.whole_nothing base f only t

  module _ (v n : ℕ) (h : Some (v, n) ≡ leading base f t) where
    pub whole_short : n < length t → f t ≡ None
    whole_short = pieces.whole_short base f only t v n h

    pub whole_number : length t ≤ n → (f t ≡ Some v) × (n ≡ length t)
    whole_number = pieces.whole_number base f only t v n h

-- ---- the mark of a hexadecimal number

-- "`0x` or `0X`": a text is marked by its first two bytes, and a shorter one is not.
pub marked_bytes : (t : List ℕ) → 2 ≤ length t → hex_marked t ≡ (eqb (get_or t 0 0) 48 && (eqb (get_or t 1 0) 120 || eqb (get_or t 1 0) 88))
marked_bytes = marks.marked_bytes

pub marked_short : (t : List ℕ) → length t < 2 → hex_marked t ≡ false
marked_short = marks.marked_short
