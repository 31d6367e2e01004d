-- NoteLaws: the words of a note, how long it is, and what it tells. Claims: the theorems, gathered for a reader.
pub mod NoteLaws
pub mod Claims
