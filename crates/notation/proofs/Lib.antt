-- DigitLaws: digits and the number they write. PieceLaws: the first separator of a text. SeparatedLaws: pieces with separators, split again.
-- IndexLaws: the first of a byte, place by place. SliceLaws: the rest of a slice. OptionLaws: what is there. EveryLaws: pieces that are read.
-- AsciiLaws: bytes from one to another.
-- Claims: the theorems, gathered for a reader.
pub mod DigitLaws
pub mod PieceLaws
pub mod SeparatedLaws
pub mod IndexLaws
pub mod SliceLaws
pub mod OptionLaws
pub mod EveryLaws
pub mod AsciiLaws
pub mod Claims
