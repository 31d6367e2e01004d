-- AnswerLaws: each case of the system's answers, and of the arguments, exactly. Claims: the theorems, gathered for a reader.
pub mod AnswerLaws
pub mod Claims
