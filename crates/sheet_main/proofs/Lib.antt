-- RunLaws: how an input is read, turn by turn. ChainLaws: all turns. ReplyLaws: what is to be written for a sheet. StatusLaws: the status. InputLaws: what
-- it says of the input. Claims: the theorems, gathered for a reader.
pub mod RunLaws
pub mod ChainLaws
pub mod ReplyLaws
pub mod StatusLaws
pub mod InputLaws
pub mod Claims
