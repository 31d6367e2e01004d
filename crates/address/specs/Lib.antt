-- Answers: refusals, their order, what a refused call answers and leaves. Addresses: the value and its order.
-- Order: the order by the parts, as the code tells it. Blocks: a block's two rules.
pub mod Answers
pub mod Addresses
pub mod Order
pub mod Blocks
