-- `runs::put_rising` meets its contract. Assumes nothing.
use Rattle.std.proofs.Common.{◌≡◌, ℕ, ◌+◌, length}
use Rattle.runs.specs.Runs.{lane_of, Parts, RunFits, Walk}
use Rattle.runs.proofs.put_rising.Given as goal

abbrev pub invariant-loop-left : goal.invariant-loop-left
invariant-loop-left l = ((last fall : ℕ) → RunFits (lane_of l.longest l.hi) l.first last l.at l.initial.out → Parts l.first last l.rise fall → Walk (lane_of l.longest l.hi) l.first last l.initial.out l.at l.out l.next l.start l.left fall)
    × (l.start + l.left ≡ l.first + l.rise) × (length l.out ≡ length l.initial.out)

abbrev pub decreases-loop-left : goal.decreases-loop-left
decreases-loop-left l = l.left
