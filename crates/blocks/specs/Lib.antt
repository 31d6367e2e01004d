-- BlockText: the text of a block, read and written.
pub mod BlockText
