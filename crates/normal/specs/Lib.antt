-- Normal: the normal text of an address.
pub mod Normal
