-- StrictReading: the answer of the strict reader in the paper's terms. Inner: what the contracts of private functions cite.
pub mod StrictReading
pub mod Inner
