-- PartLaws: the decimal parts. DottedLaws: parts with dots, read and written. Claims: the theorems, gathered for a reader.
pub mod PartLaws
pub mod DottedLaws
pub mod Claims
