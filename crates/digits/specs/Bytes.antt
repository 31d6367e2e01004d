-- Four bytes that are looked at together, as one number of 32 bits. Assumes nothing.
use Rattle.std.specs.Prelude.{cond, List, [], ◌∷◌, ℕ, ◌+◌, ◌*◌, ◌/◌, ◌%◌, ltb, get_or}
use Rattle.digits.specs.Numerals.{digit_of}

-- the four bytes of a number, the lowest first
abbrev pub bytes_of : ℕ → List ℕ
bytes_of w = w % 256 ∷ w / 256 % 256 ∷ w / 65536 % 256 ∷ w / 16777216 % 256 ∷ []

-- the first four bytes of a text, with 0 for each that it does not have
abbrev pub first_four : List ℕ → List ℕ
first_four t = get_or t 0 0 ∷ get_or t 1 0 ∷ get_or t 2 0 ∷ get_or t 3 0 ∷ []

-- 128 for a byte that is no hex digit, else 0
unfoldable pub flag_of : ℕ → ℕ
flag_of c = cond (ltb (digit_of c) 16) 0 128

-- the value of a hex digit: its low four bits, and 9 more for a letter, which bit 6 tells; for any other byte some number below 16
unfoldable pub nibble_of : ℕ → ℕ
nibble_of c = (c % 16 + c / 64 % 2 * 9) % 16
