-- AnswerLaws: what writers answer and leave. OrderLaws: conditions that hold, and the first in an order. BufferLaws: what a second write leaves.
-- AddressLaws: order told by tests and by numbers. BlockLaws: a block's two rules.
-- Claims: the theorems, gathered for a reader.
pub mod AnswerLaws
pub mod OrderLaws
pub mod BufferLaws
pub mod AddressLaws
pub mod BlockLaws
pub mod Claims
