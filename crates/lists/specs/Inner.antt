-- The two passes over a rising list of blocks, half-way: definitions for the contracts of the code that makes them. They are in no claim for a
-- reader. Assumes nothing.
use Rattle.std.specs.Prelude.{List, ℕ}
use Rattle.cover.specs.Blocks.{Block}
use Rattle.lists.specs.Lists.{blocks, labelled, gathered_from, uncovered_from}

-- The gathered list from here on, where the run from first to last is being built and the blocks bs are still to come.
unfoldable pub runs_from : ℕ → ℕ → ℕ → List Block → List Block
unfolding gathered_from
runs_from W first last bs = blocks (gathered_from W (record { first = first; last = last; label = 0 }) (labelled 0 bs))

-- The list of what is not covered from here on, where the addresses below a are done and the blocks bs are still to come.
unfoldable pub gaps_from : ℕ → ℕ → List Block → List Block
unfolding uncovered_from
gaps_from W a bs = blocks (uncovered_from W a (labelled 0 bs))
