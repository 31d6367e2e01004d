-- Claims: the theorems, gathered for a reader.
pub mod Claims
