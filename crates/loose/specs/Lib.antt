-- Loose: the loose IPv4 form. Inner: what the private functions answer.
pub mod Loose
pub mod Inner
