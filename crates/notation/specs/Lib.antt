-- BigEndian: numbers as digits in a base. Ascii: texts in quotes. Pieces: text between separators. Options: what is read where it can be.
pub mod BigEndian
pub mod Ascii
pub mod Pieces
pub mod Options
