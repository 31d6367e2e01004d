-- PartLaws: how a part begins, and the first part of a text. LooseLaws: loose text read part after part.
-- MeaningLaws: what a loose text means. FormLaws: the address of one to four parts. Claims: the theorems, gathered for a reader.
pub mod PartLaws
pub mod LooseLaws
pub mod MeaningLaws
pub mod FormLaws
pub mod Claims
