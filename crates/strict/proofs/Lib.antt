-- CodeLaws: what the code answers, step by step. ReadingLaws: the reading, and its place. Claims: the theorems, gathered for a reader.
pub mod CodeLaws
pub mod ReadingLaws
pub mod Claims
