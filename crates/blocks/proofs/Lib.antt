-- BlockTextLaws: what a text is read as, what the reader answers, and how long the text of a block is. ReadBackLaws: reading what was
-- written. Claims: what 01 asks for.
pub mod BlockTextLaws
pub mod ReadBackLaws
pub mod Claims
