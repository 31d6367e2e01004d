-- RecordLaws: one record as the code judges it. ListLaws: the records of a list, one after the other.
-- AnswerLaws: what a list is answered with, told by tests. GoodLaws: what an answer tells of the list.
-- ListFormLaws: what reading bytes answers. NumberLaws: by which number it is refused, and when.
-- Claims: what is claimed of lists of records.
pub mod RecordLaws
pub mod ListLaws
pub mod AnswerLaws
pub mod GoodLaws
pub mod ListFormLaws
pub mod NumberLaws
pub mod Claims
