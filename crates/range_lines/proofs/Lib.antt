-- KeepLaws: the first bytes of a line, kept. LineLaws: the lines of an input, and what is still written where one is begun. FedLaws: a piece of the
-- input, fed. NoteLaws: what is told of a line. UnderwayLaws: the loop over the lines of a piece. SessionLaws: the calls on an input. ReportLaws: what
-- lines give. Claims: what a reader is to believe.
pub mod KeepLaws
pub mod LineLaws
pub mod FedLaws
pub mod NoteLaws
pub mod UnderwayLaws
pub mod SessionLaws
pub mod ReportLaws
pub mod Claims
