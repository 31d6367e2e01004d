-- Labels: what a list covers, entry by entry and label by label. Chain: a list of blocks is greedy exactly if its neighbours are apart and no halves.
-- Tidy: the same of a list with labels, which is then the fewest. Order: other orders, and sorting. Runs: what the pass over a sorted list makes.
-- Gathered, Uncovered: the two lists. Plain: without labels. Count: how many blocks are not covered. Passes: the passes step by step, for the proofs of code.
-- Claims: the theorems, gathered for a reader.
pub mod Labels
pub mod Chain
pub mod Tidy
pub mod Order
pub mod Runs
pub mod Gathered
pub mod Uncovered
pub mod Plain
pub mod Count
pub mod Passes
pub mod Claims
