-- What is claimed of blocks and ranges (01, "Blocks and ranges"; demand 3), over the width W. Assumes nothing.
use mathlib.Core.Path.{◌≡◌, refl}
use mathlib.Core.Logic.{◌⊎◌, ◌↔◌}
use mathlib.Core.List.{List, [], ◌∷◌}
use Prim.Native.Nat.{ℕ, ◌+◌, ◌-◌, ◌*◌, ◌^◌, ◌≤◌, ◌<◌}
use native.Mathlib.Omega.{arith}
use lib.Count.{count_trailing_zeros, trailing_le}
use lib.ListN as L
use lib.Pow.{pow_pos}
use Rattle.wide.proofs.Trailing.{aligned_trailing, trailing_aligned}
use Rattle.cover.specs.Blocks.{Block, IsBlock, Covers, Fewest, Greedy, Range, total, largest, range_blocks}
use Rattle.cover.proofs.Range.{MayStart, largest_le, largest_may, largest_max, range_fewest}
use Rattle.cover.proofs.RangeCount.{range_total, range_count, range_count_reached}
use Rattle.cover.proofs.Interval as interval
use Rattle.cover.proofs.Greedy as greedy

-- The addresses whose first (length) bits are the block's own are those from its address on, as many as its size.
pub covers_exactly : {W : ℕ} {b : Block} → IsBlock W b → (x : ℕ) → Covers W b x ↔ ((b.address ≤ x) × (x < b.address + 2 ^ (W - b.length)))
covers_exactly B x = (λ c. let w = interval.covers_to_within B c in (w.low, w.high), λ h. interval.within_to_covers B (record { low = h.0; high = h.1 }))

-- "A block may be as large as its starting address has trailing zero bits, and no larger": so large are all blocks, and all that are so large are blocks.
pub block_size_exactly : (W : ℕ) (b : Block) → IsBlock W b ↔ ((b.address < 2 ^ W) × (b.length ≤ W) × (W - b.length ≤ count_trailing_zeros W b.address))
block_size_exactly W b =
    let zeros = aligned_trailing W b.address (W - b.length) (omega arith) in
    (λ B. (B.below, B.short, zeros.0 B.aligned), λ h. record { below = h.0; short = h.1; aligned = zeros.1 h.2 })

-- Of two blocks one covers all that the other covers, or no address is covered by both.
pub nested_or_apart : {W : ℕ} {b c : Block} → IsBlock W b → IsBlock W c
    → ((x : ℕ) → Covers W c x → Covers W b x) ⊎ ((x : ℕ) → Covers W b x → Covers W c x) ⊎ ((x : ℕ) → Covers W b x → Covers W c x → ⊥)
nested_or_apart = interval.nested_or_apart

-- The greedy list of any set of addresses is its fewest, and a set has one list of the fewest.
pub greedy_is_fewest : {W : ℕ} {S : ℕ → Type 0} {bs : List Block} → Greedy W S 0 bs → Fewest W S bs
greedy_is_fewest = greedy.greedy_fewest

pub one_fewest : {W : ℕ} {S : ℕ → Type 0} {bs cs : List Block} → Fewest W S bs → Fewest W S cs → bs ≡ cs
one_fewest = greedy.fewest_unique

-- Demand 3: the blocks of a range rise, cover each address from first to last once and no other, and every other such list is longer.
pub range_is_fewest : (W first last : ℕ) → last < 2 ^ W → Fewest W (Range first last) (range_blocks W first last)
range_is_fewest = range_fewest

-- The sizes of the blocks add up to last minus first plus one.
pub sizes_add_up : (W first last : ℕ) → first ≤ last → total W (range_blocks W first last) ≡ last - first + 1
sizes_add_up W first last h = omega (arith, range_total W first last)

-- A block may be as large as its starting address has trailing zero bits, and no larger: it is that large where the range has room.
pub at_most_trailing : (W a last : ℕ) → a ≤ last → largest W a last ≤ count_trailing_zeros W a
at_most_trailing W a last h = (aligned_trailing W a (largest W a last) (largest_le W a last)).0 (largest_may W a last h).aligned

pub as_large_as_trailing : (W a last : ℕ) → a + 2 ^ count_trailing_zeros W a ≤ last + 1 → largest W a last ≡ count_trailing_zeros W a
as_large_as_trailing W a last h =
    let may : MayStart a last (count_trailing_zeros W a) = record { aligned = trailing_aligned W a; room = omega arith } in
    let up = largest_max W a last (count_trailing_zeros W a) (trailing_le W a) may in
    let down = at_most_trailing W a last (omega (arith, pow_pos (count_trailing_zeros W a))) in
    omega arith

-- At most 2 W - 2 blocks, and that many are reached: 62 for IPv4, 254 for IPv6.
pub at_most : (W first last : ℕ) → 2 ≤ W → last < 2 ^ W → L.length (range_blocks W first last) ≤ 2 * W - 2
at_most W first last wide top = omega (arith, range_count W first last top)

pub at_most_reached : (W : ℕ) → 2 ≤ W → L.length (range_blocks W 1 (2 ^ W - 2)) ≡ 2 * W - 2
at_most_reached = range_count_reached

pub at_most_4 : (first last : ℕ) → last < 2 ^ 32 → L.length (range_blocks 32 first last) ≤ 62
at_most_4 first last = at_most 32 first last (omega arith)

pub at_most_6 : (first last : ℕ) → last < 2 ^ 128 → L.length (range_blocks 128 first last) ≤ 254
at_most_6 first last = at_most 128 first last (omega arith)

-- ---- computed: the definition runs

-- 0.0.0.0 to 255.255.255.255, and all of IPv6, are one block of length 0
pub all_4 : range_blocks 32 0 (2 ^ 32 - 1) ≡ record { address = 0; length = 0 } ∷ []
unfolding range_blocks
all_4 = refl

pub all_6 : range_blocks 128 0 (2 ^ 128 - 1) ≡ record { address = 0; length = 0 } ∷ []
unfolding range_blocks
all_6 = refl

-- the last address alone: the walk does not wrap
pub last_6 : range_blocks 128 (2 ^ 128 - 1) (2 ^ 128 - 1) ≡ record { address = 2 ^ 128 - 1; length = 128 } ∷ []
unfolding range_blocks
last_6 = refl

-- 10.0.0.1 to 10.0.0.6, the whole case of 01
pub whole_case : range_blocks 32 0x0a000001 0x0a000006
    ≡ record { address = 0x0a000001; length = 32 } ∷ record { address = 0x0a000002; length = 31 }
    ∷ record { address = 0x0a000004; length = 31 } ∷ record { address = 0x0a000006; length = 32 } ∷ []
unfolding range_blocks
whole_case = refl
