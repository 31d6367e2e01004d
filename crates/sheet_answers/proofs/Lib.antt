-- LineLaws: a sheet cut at its newlines. SheetLaws: a sheet that is read, and the one that is written. ArrangedLaws: entries as they stand or
-- sorted. PlaceLaws: the order of addresses. RefusalLaws: by which number the call refuses. RespellLaws: what a good call has written.
-- SpecimenLaws: sheets that are refused whatever the request and the buffer. Claims: the theorems, gathered for a reader.
pub mod LineLaws
pub mod SheetLaws
pub mod ArrangedLaws
pub mod PlaceLaws
pub mod RefusalLaws
pub mod RespellLaws
pub mod SpecimenLaws
pub mod Claims
