-- Notes: what is told of a refused line.
pub mod Notes
