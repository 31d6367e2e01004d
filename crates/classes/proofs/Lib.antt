-- ClassLaws: the class of an address and of a network number, and what the code answers for each. JoinLaws: splitting and joining undo each
-- other. TableLaws: the columns of the table. Claims: what 01 asks for.
pub mod ClassLaws
pub mod JoinLaws
pub mod TableLaws
pub mod Claims
