-- Placing: bytes put into a buffer.
pub mod Placing
