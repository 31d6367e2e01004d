-- Inner: definitions for private functions. What the two calls answer and leave stands in `list_answers`.
pub mod Inner
