-- What is claimed of IPv6 text, by its eight groups (01, "Strict text"). Assumes nothing.
use Rattle.std.specs.Prelude.{Some}
use mathlib.Core.Path.{◌≡◌}
use mathlib.Core.Bool.{true}
use mathlib.Core.List.{List, ◌∷◌, ◌++◌}
use Prim.Native.Nat.{ℕ, ◌+◌, ◌-◌, ◌≤◌}
use lib.ListN.{length, replicate}
use Rattle.notation.specs.BigEndian.{AllBelow}
use Rattle.notation.specs.Pieces.{contains, separated}
use Rattle.notation.specs.Options.{every}
use Rattle.digits.specs.Numerals.{group_of}
use Rattle.ipv6_text.specs.EightGroups.{eight_of}
use Rattle.ipv6_text.proofs.SpellingLaws as spelling
use Rattle.ipv6_text.proofs.MeaningLaws.{eight_groups}
use Rattle.ipv6_text.proofs.ColonLaws.{eight_colon}

-- "eight groups": what is read are eight numbers of 16 bits.
pub reads_groups : (t gs : List ℕ) → eight_of t ≡ Some gs → (length gs ≡ 8) × AllBelow 65536 gs
reads_groups t gs e = let g = eight_groups t gs e in (g.count, g.small)

-- "single colons between them": any spelling of eight groups, in either case and with leading zeros up to four digits, is read as the groups;
pub any_spelling : (ps : List (List ℕ)) (gs : List ℕ) → every group_of ps ≡ Some gs → length gs ≡ 8 → eight_of (separated 58 ps) ≡ Some gs
any_spelling = spelling.eight_spelling

-- and so is one with `::` for the zeros between those on its two sides, "so at most seven groups stand beside it".
pub any_spelling_around : (ls rs : List (List ℕ)) (xs ys : List ℕ) → every group_of ls ≡ Some xs → every group_of rs ≡ Some ys → length xs + length ys ≤ 7
    → eight_of (separated 58 ls ++ (58 ∷ 58 ∷ separated 58 rs)) ≡ Some (xs ++ (replicate (8 - (length xs + length ys)) 0 ++ ys))
any_spelling_around = spelling.gap_spelling

-- "IPv6 text always has a colon".
pub always_colon : (t gs : List ℕ) → eight_of t ≡ Some gs → contains 58 t ≡ true
always_colon = eight_colon
