-- Runs: what the sheet program does with an input.
pub mod Runs
