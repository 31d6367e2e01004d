-- FieldLaws: the fields of a line. LineLaws: a line cut at its commas. TextLaws: the bytes of a line that is written. EntryLaws: what is read keeps
-- the limits, and what is written is read back. Claims: the theorems, gathered for a reader.
pub mod FieldLaws
pub mod LineLaws
pub mod TextLaws
pub mod EntryLaws
pub mod Claims
