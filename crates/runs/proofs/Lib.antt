-- PartLaws: the rising and the falling part of a run, and its blocks one after the other. RunLaws: their records in the buffer.
-- LaneLaws: the blocks of a half are those of the addresses. RangeRuns: a range, run after run. RoomLaws: all of its records or none.
-- Claims: the theorems, gathered for a reader.
pub mod PartLaws
pub mod RunLaws
pub mod LaneLaws
pub mod RangeRuns
pub mod RoomLaws
pub mod Claims
