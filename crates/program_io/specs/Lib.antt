-- Calls: what is made of the answers of the system.
pub mod Calls
