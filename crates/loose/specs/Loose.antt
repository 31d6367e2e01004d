-- The loose IPv4 form (01, "Loose IPv4 form"; documents 001 and 003). A text is the list of its bytes. Assumes nothing.
use Rattle.std.specs.Prelude.{Bool, false, cond, List, [], ◌∷◌, ℕ, zero, suc, ◌^◌, ltb, eqb, length, drop, Option, Some, None, option_map}
use Rattle.notation.specs.BigEndian.{digits_of, number_of}
use Rattle.notation.specs.Pieces.{split_on}
use Rattle.notation.specs.Options.{every}
use Rattle.address.specs.declared.Address.{Address}
use Rattle.address.specs.declared.Address.TheVariants.{V4}
use Rattle.address.specs.Answers.{precedence, Answer, read_answer, no_address}
use Rattle.digits.specs.Numerals.{hex_marked, text_number}

-- the digit 0 comes first
unfoldable pub starts_zero : List ℕ → Bool
starts_zero [] = false
starts_zero (c ∷ t) = eqb c 48

-- "hexadecimal after `0x` or `0X` (at least one digit), else octal after a leading `0`, else decimal"
unfoldable pub base_of : List ℕ → ℕ
unfolding hex_marked starts_zero
base_of p = cond (hex_marked p) 16 (cond (starts_zero p) 8 10)

-- the bytes before the digits
unfoldable pub mark_of : List ℕ → ℕ
unfolding hex_marked
mark_of p = cond (hex_marked p) 2 0

-- a part, with "any number of leading zeros"
unfoldable pub loose_part : List ℕ → Option ℕ
unfolding base_of mark_of text_number
loose_part p = text_number (base_of p) (drop (mark_of p) p)

-- The parts as k octets. "Every part but the last is at most 255"; the last "fills the remaining bytes", so it is "at most 255, 65,535,
-- 16,777,215 or 4,294,967,295 where there are four, three, two or one parts". There are none for more parts than octets.
unfoldable pub octets_from : ℕ → List ℕ → Option (List ℕ)
unfolding digits_of
octets_from zero xs = None
octets_from (suc k) [] = None
octets_from (suc k) (x ∷ []) = cond (ltb x (256 ^ suc k)) (Some (digits_of 256 (suc k) x)) None
octets_from (suc k) (x ∷ y ∷ ys) = cond (ltb x 256) (option_map (λ bs. x ∷ bs) (octets_from k (y ∷ ys))) None

-- the four octets of "one to four parts"
abbrev pub combined : Option (List ℕ) → Option (List ℕ)
combined None = None
combined (Some xs) = octets_from 4 xs

-- the address of a loose text
unfoldable pub loose_of : List ℕ → Option Address
unfolding loose_part octets_from every number_of split_on
loose_of t = option_map (λ bs. V4 (number_of 256 bs)) (combined (every loose_part (split_on 46 t)))

-- what reading answers: "the text is longer than 64 bytes", or the address
unfoldable pub loose_answer : List ℕ → Answer Address
unfolding loose_of read_answer
loose_answer t = read_answer precedence no_address ((1, ltb 64 (length t)) ∷ []) (loose_of t)
