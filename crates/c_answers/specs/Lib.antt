-- CAnswers: the answers of the C interface in the paper's terms.
pub mod CAnswers
