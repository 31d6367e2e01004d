-- Specimens: the table of the specimens that are proved.
pub mod Specimens
