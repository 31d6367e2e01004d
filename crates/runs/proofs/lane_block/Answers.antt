-- `runs::lane_block` meets its contract. Assumes nothing.
use Rattle.std.proofs.Common.{◌≡◌, ℕ, ◌^◌, ap, arith}
use Rattle.runs.specs.Runs.{lane_of, lane_bits}
use Rattle.runs.proofs.RunLaws.{lane_32, lane_64, lane_128, lane_narrow, lane_lower, lane_upper}
use Rattle.runs.proofs.lane_block.Goals.{Else-longest-eq64, Then-longest-eq32, Then-longest-eq64}
use Rattle.runs.proofs.lane_block.Goals as goal

-- how many bits each lane has
bits-32 : (c : Then-longest-eq32) → lane_bits (lane_of c.args.longest c.args.hi) ≡ 32
bits-32 c = ap lane_bits (lane_32 _ _ c.if-longest-eq32.true)

bits-64 : (c : Then-longest-eq64) → let a = c.args in lane_bits (lane_of a.longest a.hi) ≡ 64
bits-64 c = ap lane_bits (lane_64 _ _ c.if-longest-eq64.true)

bits-128 : (c : Else-longest-eq64) → let a = c.args in lane_bits (lane_of a.longest a.hi) ≡ 64
bits-128 c = ap lane_bits (lane_128 _ _ c.if-longest-eq32.false c.if-longest-eq64.false)

pub overflow_cast-result : goal.overflow_cast-result
overflow_cast-result c = omega (arith, c.requires.0, ap (λ (n : ℕ). 2 ^ n) (bits-32 (goal.at.overflow_cast-result c).Then-longest-eq32))

pub overflow_sub-result : goal.overflow_sub-result
overflow_sub-result c = omega (arith, c.requires.1, bits-32 (goal.at.overflow_sub-result c).Then-longest-eq32)

pub returns-then-longest-eq32 : goal.returns-then-longest-eq32
returns-then-longest-eq32 c = lane_narrow _ _ _ (lane_32 _ _ c.if-longest-eq32.true)

pub overflow_sub-result-then-longest-eq64 : goal.overflow_sub-result-then-longest-eq64
overflow_sub-result-then-longest-eq64 c = omega (arith, c.requires.1, bits-64 (goal.at.overflow_sub-result-then-longest-eq64 c).Then-longest-eq64)

pub returns-then-longest-eq64 : goal.returns-then-longest-eq64
returns-then-longest-eq64 c = lane_upper _ _ _ (lane_64 _ _ c.if-longest-eq64.true)

pub overflow_sub-result-2 : goal.overflow_sub-result-2
overflow_sub-result-2 c = omega (arith, c.requires.1, bits-128 (goal.at.overflow_sub-result-2 c).Else-longest-eq64)

pub returns : goal.returns
returns c = lane_lower _ _ _ _ (lane_128 _ _ c.if-longest-eq32.false c.if-longest-eq64.false) (omega (arith, c.requires.1, bits-128 (goal.at.returns c).Else-longest-eq64))
