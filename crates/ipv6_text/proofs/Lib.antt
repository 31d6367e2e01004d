-- SpellingLaws: any spelling is read as its groups. ColonLaws: which texts have a colon. MeaningLaws: what is read are eight groups.
-- GroupLaws: groups read piece after piece. GapLaws: the first `::`, and the groups before it. PlaceLaws: groups in their places. SideLaws:
-- one side of `::`, read group by group. Claims: the theorems, gathered for a reader.
pub mod SpellingLaws
pub mod ColonLaws
pub mod MeaningLaws
pub mod GroupLaws
pub mod GapLaws
pub mod PlaceLaws
pub mod SideLaws
pub mod Claims
