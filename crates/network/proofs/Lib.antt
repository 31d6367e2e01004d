-- GivenLaws: the bytes before the slash. TextLaws: the text that is written. NetworkLaws: zeros behind the bytes given, the size, and what
-- reading answers. ReadBackLaws: reading what was written. Claims: what 01 asks for.
pub mod GivenLaws
pub mod TextLaws
pub mod NetworkLaws
pub mod ReadBackLaws
pub mod Claims
