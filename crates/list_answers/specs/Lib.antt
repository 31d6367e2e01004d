-- ListAnswers: what the two calls of Req 01 answer and leave.
pub mod ListAnswers
