-- Inner: what the contracts of private functions cite. What the call answers and leaves is in `sheet_answers`.
pub mod Inner
