-- `runs::cut` meets its contract. Assumes nothing.
use Rattle.std.proofs.Common.{◌≡◌, ℕ, suc, ◌+◌, ◌-◌, ◌*◌, ◌%◌, ◌^◌, ◌<◌, ◌≤◌, refl, arith}
use lib.Count.{count_leading_zeros}
use Rattle.wide.proofs.Halves.{one_shifted}
use Rattle.runs.proofs.PartLaws.{size_pos, size_below, rise_below, size_parts, top_bits}
use Rattle.runs.proofs.cut.Goals.{Start}
use Rattle.runs.proofs.cut.Goals as goal

-- how many numbers the run has, and the exponent of the largest power of two that is not above that
abbrev left : Start → ℕ
left c = c.args.last - c.args.first + 1

abbrev bits : Start → ℕ
bits c = 63 - count_leading_zeros 64 (left c)

top : (c : Start) → (count_leading_zeros 64 (left c) ≤ 63) × (2 ^ bits c ≤ left c) × (left c < 2 ^ suc (bits c))
top c = top_bits (left c) (omega arith) (omega arith)

size : (c : Start) → 1 * 2 ^ bits c % 2 ^ 64 ≡ 2 ^ bits c
size c = one_shifted (bits c) (omega arith)

pub overflow_sub-size : goal.overflow_sub-size
overflow_sub-size c = (top (goal.at.overflow_sub-size c).Start).0

pub nonzero_rem-rise : goal.nonzero_rem-rise
nonzero_rem-rise c = size_pos c.args.first c.args.last (left (goal.at.nonzero_rem-rise c).Start) (bits (goal.at.nonzero_rem-rise c).Start) _ refl c.requires.0 (top (goal.at.nonzero_rem-rise c).Start).1 (top (goal.at.nonzero_rem-rise c).Start).2 (size (goal.at.nonzero_rem-rise c).Start)

pub overflow_sub-rise : goal.overflow_sub-rise
overflow_sub-rise c = size_below c.args.first c.args.last (left (goal.at.overflow_sub-rise c).Start) (bits (goal.at.overflow_sub-rise c).Start) _ refl c.requires.0 (top (goal.at.overflow_sub-rise c).Start).1 (top (goal.at.overflow_sub-rise c).Start).2 (size (goal.at.overflow_sub-rise c).Start)

pub nonzero_rem-rise-2 : goal.nonzero_rem-rise-2
nonzero_rem-rise-2 c = size_pos c.args.first c.args.last (left (goal.at.nonzero_rem-rise-2 c).Start) (bits (goal.at.nonzero_rem-rise-2 c).Start) _ refl c.requires.0 (top (goal.at.nonzero_rem-rise-2 c).Start).1 (top (goal.at.nonzero_rem-rise-2 c).Start).2 (size (goal.at.nonzero_rem-rise-2 c).Start)

pub overflow_sub-result : goal.overflow_sub-result
overflow_sub-result c = rise_below c.args.first c.args.last (left (goal.at.overflow_sub-result c).Start) (bits (goal.at.overflow_sub-result c).Start) _ refl c.requires.0 (top (goal.at.overflow_sub-result c).Start).1 (top (goal.at.overflow_sub-result c).Start).2 (size (goal.at.overflow_sub-result c).Start)

pub returns : goal.returns
returns c = size_parts c.args.first c.args.last (left (goal.at.returns c).Start) (bits (goal.at.returns c).Start) _ refl c.requires.0 (top (goal.at.returns c).Start).1 (top (goal.at.returns c).Start).2 (size (goal.at.returns c).Start)
