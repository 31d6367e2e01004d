-- RunLaws: the run that the loops find. Claims: the theorems, gathered for a reader.
pub mod RunLaws
pub mod Claims
