-- Words: the refusals in words.
pub mod Words
