-- SheetForm: the sheet, its lines and their number, what is written of it and in which order, and the call that respells it.
pub mod SheetForm
