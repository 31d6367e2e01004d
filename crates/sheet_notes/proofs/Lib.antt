-- LineLaws: the line at fault, as the code finds it. NoteLaws: the note. BeginningLaws: the first lines of a sheet. FaultLaws: the line at fault is the
-- first that breaks its rule. Claims: the theorems, gathered for a reader.
pub mod LineLaws
pub mod NoteLaws
pub mod BeginningLaws
pub mod FaultLaws
pub mod Claims
