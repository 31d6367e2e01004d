-- What is claimed of a range's records at an index of a buffer (01, "Blocks and ranges"), over the width W. Assumes nothing.
use Rattle.std.proofs.Common.{◌≡◌, ℕ, suc, ◌+◌, ◌*◌, ◌/◌, ◌^◌, ◌<◌, ◌≤◌, ◌⊎◌, List, ◌++◌, length, take, drop, le_refl}
use lib.Count.{ones, count_trailing_zeros}
use Rattle.wide.proofs.Trailing.{trailing_lower, trailing_upper}
use Rattle.cover.specs.Blocks.{range_blocks}
use Rattle.output.specs.Placing.{PutsAll}
use Rattle.records.specs.Records.{record_size, records_of, read_records}
use Rattle.runs.specs.Runs.{Lower, Upper, lane_blocks, Parts}
use Rattle.runs.proofs.LaneLaws as lanes
use Rattle.runs.proofs.PartLaws as parts
use Rattle.runs.proofs.RoomLaws as room

module _ (W first last : ℕ) {old new : List ℕ} {at next : ℕ} (p : PutsAll old new at next (records_of W (range_blocks W first last))) where
  -- Where they have room, the records at the index, read as blocks, are those of the range, the answer is the index behind them, and every
  -- byte before and behind them stays.
  pub held : 256 ^ (W / 8) ≡ 2 ^ W → last < 2 ^ W → at + length (records_of W (range_blocks W first last)) ≤ length old
      → (read_records W (length (range_blocks W first last)) (drop at new) ≡ range_blocks W first last)
      × (next ≡ at + record_size W * length (range_blocks W first last))
      × (take at new ≡ take at old)
      × (drop next new ≡ drop next old)
  held = room.held W first last p

  -- Where they have none, nothing is altered, and the index stays.
  pub kept : length old < at + length (records_of W (range_blocks W first last)) → (next ≡ at) × (new ≡ old)
  kept = room.kept W first last p

-- A run has a block for each one bit of its rising part and of its falling part.
pub counted : (W first last rise fall : ℕ) → last < 2 ^ W → Parts first last rise fall → length (range_blocks W first last) ≡ ones rise + ones fall
counted W first last rise fall top p = parts.parts_count W last top (rise + fall) first rise fall (le_refl (rise + fall)) p

-- The trailing zeros of an IPv6 address go across both halves: they are those of the half that a run counts in, and 64 more in the upper.
pub zeros_lower : (hi a : ℕ) → 0 < a → a < 2 ^ 64 → count_trailing_zeros 128 (hi * 2 ^ 64 + a) ≡ count_trailing_zeros 64 a
zeros_lower = trailing_lower 64 64

pub zeros_upper : (a : ℕ) → count_trailing_zeros 128 (a * 2 ^ 64) ≡ 64 + count_trailing_zeros 64 a
zeros_upper = trailing_upper 64 64

-- ---- a range of IPv6 addresses by halves

-- The blocks of a run are those of the numbers that it counts in, taken to addresses: below one upper half, where the run ends with the range, or
-- ends that half and begins behind its start;
pub lower_blocks : (hi last b : ℕ) → b < 2 ^ 64 → hi * 2 ^ 64 + b ≤ last → (a : ℕ) → a ≤ b → (last ≡ hi * 2 ^ 64 + b) ⊎ ((suc b ≡ 2 ^ 64) × (0 < a))
    → range_blocks 128 (hi * 2 ^ 64 + a) last ≡ lane_blocks (Lower hi) (range_blocks 64 a b) ++ range_blocks 128 (suc (hi * 2 ^ 64 + b)) last
lower_blocks = lanes.lower_blocks

-- and over whole lower halves, where no further one fits.
pub upper_blocks : (last b : ℕ) → b < 2 ^ 64 → (b + 1) * 2 ^ 64 ≤ suc last → suc last < (b + 2) * 2 ^ 64
    → (a : ℕ) → a ≤ b → range_blocks 128 (a * 2 ^ 64) last ≡ lane_blocks Upper (range_blocks 64 a b) ++ range_blocks 128 (suc b * 2 ^ 64) last
upper_blocks = lanes.upper_blocks
