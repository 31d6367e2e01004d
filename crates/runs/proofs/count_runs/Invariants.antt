-- `runs::count_runs` meets its contract. Assumes nothing.
use Rattle.std.proofs.Common.{◌≡◌, ◌+◌, ◌-◌, ◌^◌, ◌<◌, ◌≤◌, length}
use Rattle.wide.specs.Value.{value}
use Rattle.cover.specs.Blocks.{range_blocks}
use Rattle.runs.proofs.count_runs.Given as goal

abbrev pub invariant-loop-last : goal.invariant-loop-last
invariant-loop-last l = (value l.start ≤ value l.last) × (l.n + length (range_blocks 128 (value l.start) (value l.last)) ≡ length (range_blocks 128 (value l.initial.start) (value l.last)))
    × (value l.last - value l.start < 2 ^ 128 - 1)

abbrev pub decreases-loop-last : goal.decreases-loop-last
decreases-loop-last l = value l.last - value l.start
