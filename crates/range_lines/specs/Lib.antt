-- Lines: the lines of an input, and what is written for them. Feeding: an input that is read in pieces. ProgramForm: what is written for an
-- input, sentence by sentence. Inner: what the functions inside do.
pub mod Lines
pub mod Feeding
pub mod ProgramForm
pub mod Inner
