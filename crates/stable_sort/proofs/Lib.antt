-- StableLaws: sorting by insertion, and that there is one stable sort. IndexLaws: the order told by indices. Claims: the theorems, gathered for a reader.
pub mod StableLaws
pub mod IndexLaws
pub mod Claims
