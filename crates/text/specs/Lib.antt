-- Strict: strict text of both families, and what reading it answers.
pub mod Strict
