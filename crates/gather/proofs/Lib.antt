-- BlockLaws: the block of a record, as the code reads it. PutLaws: records of a range and of one block, put into a buffer.
-- OrderLaws: the records in the order of their addresses. PassLaws: the pass over the blocks in that order. GapLaws: the gaps between them.
-- WriteLaws: what is written, in the paper's terms.
pub mod BlockLaws
pub mod PutLaws
pub mod PassLaws
pub mod OrderLaws
pub mod WriteLaws
pub mod GapLaws
