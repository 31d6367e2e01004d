-- GivenBytes: the bytes that a network text gives. NetworkText: the network form, written. Network: the network form, read.
pub mod GivenBytes
pub mod NetworkText
pub mod Network
