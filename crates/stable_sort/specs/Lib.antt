-- Stable: a list in the order of its elements' keys. Indices: what it is to say the same by indices.
pub mod Stable
pub mod Indices
