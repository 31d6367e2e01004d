-- PlacingLaws: bytes put into a buffer one after the other. WriteLaws: numerals as the code writes them.
-- Claims: the theorems, gathered for a reader.
pub mod PlacingLaws
pub mod WriteLaws
pub mod Claims
