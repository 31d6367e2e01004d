-- RecordLists: what a list of records holds, and why it is refused. ListForm: what reading one answers, case by case.
-- Inner: definitions for private functions.
pub mod RecordLists
pub mod ListForm
pub mod Inner
