-- Interval: a block as an interval; two blocks are nested or apart. Greedy: the greedy list of any set is its fewest, and the only one.
-- Greatest: the largest number that passes a test. Range: the blocks of a range are its fewest. RangeCount: how many blocks, and how many addresses.
-- Claims: the theorems, gathered for a reader.
pub mod Interval
pub mod Greedy
pub mod Greatest
pub mod Range
pub mod RangeCount
pub mod Claims
