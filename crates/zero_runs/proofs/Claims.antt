-- What is claimed of runs of zero groups (01, "Normal text"). Assumes nothing.
use mathlib.Core.Path.{◌≡◌}
use mathlib.Core.List.{List}
use Prim.Native.Nat.{ℕ}
use Rattle.zero_runs.specs.Runs.{LeftmostLongest, longest_run, first_run}
use Rattle.zero_runs.proofs.RunLaws as laws

-- "the longest run", and "Of two runs equally long the leftmost": so is the run of that length that comes first.
pub run_is : (gs : List ℕ) → LeftmostLongest gs (first_run (longest_run gs) gs) (longest_run gs)
run_is = laws.run_is

-- There is no other.
pub run_only : (gs : List ℕ) (start n : ℕ) → LeftmostLongest gs start n → (n ≡ longest_run gs) × (start ≡ first_run (longest_run gs) gs)
run_only gs start n = laws.run_only
