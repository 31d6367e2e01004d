-- IPv4 text: parts with dots (01, "Strict text" and "Normal text"; RFC 3986 section 3.2.2). A text is the list of its bytes. Assumes nothing.
use Rattle.std.specs.Prelude.{cond, List, map, ℕ, eqb, leb, length, Option, Some, None, option_map}
use Rattle.notation.specs.BigEndian.{digits_of, number_of}
use Rattle.notation.specs.Options.{every}
use Rattle.notation.specs.Pieces.{split_on, separated}
use Rattle.digits.specs.Numerals.{part_of, decimal}

-- "one to four strict decimal parts", with single dots (01, "Network form")
unfoldable pub parts_of : List ℕ → Option (List ℕ)
unfolding every
parts_of t = cond (leb (length (split_on 46 t)) 4) (every (part_of 255) (split_on 46 t)) None

-- "exactly four parts with single dots. A part is 0 to 255": the number of the address
unfoldable pub dotted_of : List ℕ → Option ℕ
unfolding number_of
dotted_of t = cond (eqb (length (split_on 46 t)) 4) (option_map (number_of 256) (every (part_of 255) (split_on 46 t))) None

-- the number that the parts write as octets, and how many they are
abbrev pub as_parts : Option (List ℕ) → Option (ℕ × ℕ)
as_parts None = None
as_parts (Some xs) = Some (number_of 256 xs, length xs)

-- "four strict parts": the octets of the address in decimal, with dots between them
unfoldable pub dotted_text : ℕ → List ℕ
dotted_text v = separated 46 (map decimal (digits_of 256 4 v))
