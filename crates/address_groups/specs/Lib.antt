-- Groups: the eight groups of an IPv6 address.
pub mod Groups
