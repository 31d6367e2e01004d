-- `runs::put_runs` meets its contract. Assumes nothing.
use Rattle.std.proofs.Common.{◌-◌, ◌^◌, ◌<◌}
use Rattle.wide.specs.Value.{value}
use Rattle.runs.proofs.RangeRuns.{Between}
use Rattle.runs.proofs.put_runs.Given as goal

abbrev pub invariant-loop-last : goal.invariant-loop-last
invariant-loop-last l = Between 128 (value l.initial.start) (value l.last) l.initial.out l.at l.out l.next (value l.start) × (value l.last - value l.start < 2 ^ 128 - 1)

abbrev pub decreases-loop-last : goal.decreases-loop-last
decreases-loop-last l = value l.last - value l.start
