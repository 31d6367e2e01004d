-- `runs::put_falling` meets its contract. Assumes nothing.
use Rattle.std.proofs.Common.{◌+◌, ◌-◌, ◌^◌, ◌<◌, ◌≤◌}
use Rattle.output.specs.Placing.{Puts}
use Rattle.runs.specs.Runs.{lane_of, run_records, Walk}
use Rattle.runs.proofs.put_falling.Given as goal

abbrev pub invariant-loop-left : goal.invariant-loop-left
invariant-loop-left l = (0 < l.left → Walk (lane_of l.longest l.hi) l.first (l.first + l.fall - 1) l.initial.out l.at l.out l.next l.start 0 l.left)
    × (l.left ≤ 0 → Puts l.initial.out l.out l.at l.next (run_records (lane_of l.longest l.hi) l.first (l.first + l.fall - 1)))
    × (l.left < 2 ^ 64)

abbrev pub decreases-loop-left : goal.decreases-loop-left
decreases-loop-left l = l.left
