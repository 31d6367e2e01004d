-- Laws that more than one proof cites. Aligned: multiples of a power of two. Trailing: zero bits at a number's end.
-- Halves: order, sum and difference of numbers of two digits. Order: what the derived comparisons say.
-- Claims: the theorems, gathered for a reader.
pub mod Aligned
pub mod Trailing
pub mod Halves
pub mod Order
pub mod Claims
