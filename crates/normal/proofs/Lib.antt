-- GroupsTextLaws: groups with colons, one more at a time. BoundLaws: how long normal text can be.
-- ReadBackLaws: normal text, read. LowerLaws: its letters. Claims: what 01 and the demands ask of normal text, and of strict and normal text together.
pub mod GroupsTextLaws
pub mod BoundLaws
pub mod ReadBackLaws
pub mod LowerLaws
pub mod Claims
