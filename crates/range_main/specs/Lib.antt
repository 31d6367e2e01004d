-- Runs: what the loops of the range program keep.
pub mod Runs
