-- Claims: every row of the table is correct.
pub mod Claims
