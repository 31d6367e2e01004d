-- Dotted: IPv4 text, read and written.
pub mod Dotted
