-- The bytes that a network text gives, before the slash (01, "Network form"; document 000). A text is the list of its bytes. Assumes nothing.
use Rattle.std.specs.Prelude.{cond, ◌&&◌, List, [], ◌∷◌, ◌++◌, map, ℕ, ◌+◌, ◌-◌, ◌*◌, length, take, drop, replicate, Option, Some, None}
use Rattle.notation.specs.BigEndian.{number_of}
use Rattle.notation.specs.Ascii.{within}
use Rattle.notation.specs.Pieces.{index_of}
use Rattle.digits.specs.Numerals.{digit_of, all_digits, hex_marked}
use Rattle.ipv4_text.specs.Dotted.{parts_of}

-- "Hex digits fill half bytes from the left. An odd last digit fills the upper half of its byte, the lower half is zero"
unfoldable pub half_bytes : List ℕ → List ℕ
half_bytes [] = []
half_bytes (d ∷ []) = (d * 16) ∷ []
half_bytes (d ∷ e ∷ ds) = (d * 16 + e) ∷ half_bytes ds

-- "one to eight hex digits"
unfoldable pub hex_bytes : List ℕ → Option (List ℕ)
unfolding half_bytes all_digits digit_of
hex_bytes t = cond (within 1 8 (length t) && all_digits 16 t) (Some (half_bytes (map digit_of t))) None

-- "Either `0x`/`0X` and one to eight hex digits, or one to four strict decimal parts"
unfoldable pub given_of : List ℕ → Option (List ℕ)
unfolding hex_bytes hex_marked parts_of
given_of t = cond (hex_marked t) (hex_bytes (drop 2 t)) (parts_of t)

-- bytes with zeros behind them, n in all
unfoldable pub zero_filled : ℕ → List ℕ → List ℕ
zero_filled n bs = bs ++ replicate (n - length bs) 0

-- the text before the first slash, which is all of it where there is none
abbrev pub before_slash : List ℕ → List ℕ
before_slash t = take (index_of 47 t) t

-- the code's answer: the bytes given as the first octets of a number of 32 bits, how many they are, and the place where they end
abbrev pub as_given : Option (List ℕ) → ℕ → Option (ℕ × ℕ × ℕ)
as_given None at = None
as_given (Some bs) at = Some (number_of 256 (zero_filled 4 bs), length bs, at)
