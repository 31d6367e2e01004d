-- Runs: the leftmost longest run of zeros.
pub mod Runs
