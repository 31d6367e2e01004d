-- Sheets: the lines of a sheet and what they hold, and the order of addresses. SheetAnswers: what the call answers and leaves. Specimens: a sheet
-- written down by its lines, and malformed lines.
pub mod Sheets
pub mod SheetAnswers
pub mod Specimens
