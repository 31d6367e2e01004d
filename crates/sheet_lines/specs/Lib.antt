-- Lines: what a line of the sheet holds, and the line that is written of it. Inner: what the contracts of private functions cite.
pub mod Lines
pub mod Inner
