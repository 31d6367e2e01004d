-- `zero_runs::longest_run` meets its contract. The outer loop has the best run among the starts passed, the inner one counts zeros. Assumes nothing.
use mathlib.Core.Path.{◌≡◌}
use Prim.Native.Nat.{◌+◌, ◌-◌, ◌≤◌}
use lib.ListN.{drop}
use Rattle.zero_runs.specs.Runs.{zeros_of}
use Rattle.zero_runs.proofs.RunLaws.{Best}
use Rattle.zero_runs.proofs.longest_run.Given as goal

abbrev pub invariant-run : goal.invariant-run
invariant-run l = (l.start ≤ l.end) × (l.end ≤ 8) × (zeros_of (drop l.start l.groups) ≡ l.end - l.start + zeros_of (drop l.end l.groups))

abbrev pub decreases-run : goal.decreases-run
decreases-run l = 8 - l.end

abbrev pub invariant-loop-start : goal.invariant-loop-start
invariant-loop-start l = (l.start ≤ 8) × Best l.groups l.start l.best l.length

abbrev pub decreases-loop-start : goal.decreases-loop-start
decreases-loop-start l = 8 - l.start
