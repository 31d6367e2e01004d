-- What is claimed of IPv4 text: parts with dots, read and written (01, "Strict text" and "Normal text"). Assumes nothing.
use Rattle.std.specs.Prelude.{Some}
use mathlib.Core.Path.{◌≡◌}
use mathlib.Core.Logic.{◌↔◌}
use mathlib.Core.Bool.{false}
use mathlib.Core.List.{List}
use Prim.Native.Nat.{ℕ, ◌^◌, ◌≤◌, ◌<◌}
use lib.Dec.{eqb}
use lib.ListN.{length}
use Rattle.notation.specs.BigEndian.{AllBelow, number_of}
use Rattle.notation.specs.Pieces.{contains, split_on, separated}
use Rattle.notation.specs.Options.{every}
use Rattle.digits.specs.Numerals.{digit_of, part_of}
use Rattle.ipv4_text.specs.Dotted.{parts_of, dotted_of, dotted_text}
use Rattle.ipv4_text.proofs.DottedLaws as laws

-- ---- one to four parts

-- "one to four strict decimal parts": the pieces between the dots are one to four, and each is read as a part; so each is an octet.
pub parts_exactly : (t xs : List ℕ) → (parts_of t ≡ Some xs) ↔ ((every (part_of 255) (split_on 46 t) ≡ Some xs) × (1 ≤ length xs) × (length xs ≤ 4))
parts_exactly = laws.parts_exactly

pub parts_below : (t xs : List ℕ) → parts_of t ≡ Some xs → AllBelow 256 xs
parts_below t xs e = (laws.parts_are t xs e).octets.small

-- Any parts with single dots between them are read as their numbers.
pub parts_spelling : (ps : List (List ℕ)) (xs : List ℕ) → every (part_of 255) ps ≡ Some xs → 1 ≤ length xs → length xs ≤ 4 → parts_of (separated 46 ps) ≡ Some xs
parts_spelling = laws.parts_spelling

-- ---- exactly four

-- "exactly four parts with single dots": the number is the one that they write as octets, which has 32 bits.
pub dotted_exactly : (t : List ℕ) (v : ℕ)
    → (dotted_of t ≡ Some v) ↔ ((xs : List ℕ) × (every (part_of 255) (split_on 46 t) ≡ Some xs) × (length xs ≡ 4) × (number_of 256 xs ≡ v))
dotted_exactly = laws.dotted_exactly

pub dotted_below : (t : List ℕ) (v : ℕ) → dotted_of t ≡ Some v → v < 2 ^ 32
dotted_below = laws.dotted_below

pub dotted_spelling : (ps : List (List ℕ)) (xs : List ℕ) → every (part_of 255) ps ≡ Some xs → length xs ≡ 4 → dotted_of (separated 46 ps) ≡ Some (number_of 256 xs)
dotted_spelling = laws.dotted_spelling

-- "A zero byte inside it is a wrong byte. Surrounding blanks are wrong bytes": so is every byte but a decimal digit and a dot.
pub only_these : (b : ℕ) → 10 ≤ digit_of b → eqb 46 b ≡ false → (t : List ℕ) (v : ℕ) → dotted_of t ≡ Some v → contains b t ≡ false
only_these = laws.dotted_lacks

-- ---- written

-- The text of an address is read as the address, and has "at most 15 bytes".
pub read_back : (v : ℕ) → v < 2 ^ 32 → dotted_of (dotted_text v) ≡ Some v
read_back = laws.dotted_back

pub at_most_15 : (v : ℕ) → length (dotted_text v) ≤ 15
at_most_15 = laws.dotted_most
