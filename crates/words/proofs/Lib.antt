-- WordsLaws: what is answered for a number of the table, and for any other. Claims: what is claimed of the words.
pub mod WordsLaws
pub mod Claims
