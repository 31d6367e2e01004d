-- NumberFormLaws: the numbers of a line. LineFormLaws: a line. SheetFormLaws: a sheet, its lines and what is written of it. AddressOrderLaws: the order
-- of addresses. ArrangedFormLaws: the order of entries. SheetCallLaws: the call. Claims: what is claimed of all.
pub mod NumberFormLaws
pub mod LineFormLaws
pub mod SheetFormLaws
pub mod AddressOrderLaws
pub mod ArrangedFormLaws
pub mod SheetCallLaws
pub mod Claims
