-- SheetNotes: what is told of a refused sheet.
pub mod SheetNotes
