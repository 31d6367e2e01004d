-- AnswerLaws: what a call answers and leaves, and a second call on what it left. Claims: what is claimed of a gathered list and of what a list
-- does not cover.
pub mod AnswerLaws
pub mod Claims
