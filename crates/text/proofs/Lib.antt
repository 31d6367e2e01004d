-- FamilyLaws: no text is of both families. CaseLaws: the case of letters does not matter. MeaningLaws: what is read is an address.
-- StrictLaws: what reading answers. ByteLaws: which bytes a text holds. Claims: the theorems, gathered for a reader.
pub mod FamilyLaws
pub mod CaseLaws
pub mod MeaningLaws
pub mod StrictLaws
pub mod ByteLaws
pub mod Claims
