-- LongestLaws: how far a text goes on as a rule has it, for each form of a rule. FrontLaws: parts and groups, whole or begun.
-- DottedLaws: the rule of IPv4 text, which accepts what is read. GroupsLaws: the rule of IPv6 text. SpeltLaws: what it accepts is read.
-- RuleLaws: it accepts what is read. LengthLaws: no accepted text is longer than 45 bytes. PlaceLaws: the computed place is that of the sentence.
-- Claims: the theorems, gathered for a reader.
pub mod LongestLaws
pub mod FrontLaws
pub mod DottedLaws
pub mod GroupsLaws
pub mod SpeltLaws
pub mod RuleLaws
pub mod LengthLaws
pub mod PlaceLaws
pub mod Claims
