-- Normal text (01, "Normal text"; RFC 5952 section 4). Assumes nothing.
use Rattle.std.specs.Prelude.{cond, List, ◌∷◌, ◌++◌, map, ℕ, ◌+◌, ltb, take, drop}
use Rattle.notation.specs.Pieces.{separated}
use Rattle.address.specs.declared.Address.{Address}
use Rattle.address.specs.declared.Address.TheVariants.{V4, V6}
use Rattle.address_groups.specs.Groups.{groups_of}
use Rattle.digits.specs.Numerals.{hex}
use Rattle.ipv4_text.specs.Dotted.{dotted_text}
use Rattle.zero_runs.specs.Runs.{longest_run, first_run}

-- groups in "lower case, no leading zeros in a group", with single colons between them
unfoldable pub groups_text : List ℕ → List ℕ
unfolding separated
groups_text gs = separated 58 (map hex gs)

-- the groups with `::` in place of the n from `start` on
unfoldable pub shortened : ℕ → ℕ → List ℕ → List ℕ
unfolding groups_text
shortened start n gs = groups_text (take start gs) ++ (58 ∷ 58 ∷ groups_text (drop (start + n) gs))

-- "the longest run of two or more zero groups becomes `::`. Of two runs equally long the leftmost is shortened."
unfoldable pub normal_groups : List ℕ → List ℕ
unfolding shortened longest_run first_run
normal_groups gs = cond (ltb (longest_run gs) 2) (groups_text gs) (shortened (first_run (longest_run gs) gs) (longest_run gs) gs)

-- the normal text of an address: "four strict parts", or the groups
unfoldable pub normal_text : Address → List ℕ
unfolding normal_groups
normal_text (V4 v) = dotted_text v
normal_text (V6 hi lo) = normal_groups (groups_of hi lo)
