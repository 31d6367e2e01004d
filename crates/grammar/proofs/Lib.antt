-- CallLaws: a call and the family of its answers.
-- Strict text. DigitStringLaws: digits and strings of digits, as the rules have them and as they are read. NumberLaws: octets, sizes and
-- groups, and their one spelling. DottedLaws: IPv4 text. SideLaws: the groups on one side of `::`. EightLaws: both sides. GrammarLaws: the
-- nine alternatives. LengthLaws: how long a text can be. StrictFormLaws: the families asked for, and what reading answers. PlaceFormLaws: where a text goes wrong. NormalFormLaws: the
-- one of these texts that is written.
-- Loose text. LoosePartLaws: one part. LooseFormLaws: the four forms, and what reading answers. LimitLaws: limits, octets and leading zeros.
-- Network text. GivenLaws: the bytes given. NetworkFormLaws: sizes, the bytes written, and what reading answers and leaves in the buffer.
-- NetworkCallLaws: what an answer says of the text. WrittenLaws: the text that is written, and what writing answers.
-- Block text. BlockFormLaws: the form, what reading answers, and what is written. ByteLaws: which bytes stand in a text.
-- SpecimenLaws: texts that are of no form. Claims: what is claimed of all.
pub mod CallLaws
pub mod DigitStringLaws
pub mod NumberLaws
pub mod DottedLaws
pub mod SideLaws
pub mod EightLaws
pub mod GrammarLaws
pub mod LengthLaws
pub mod StrictFormLaws
pub mod PlaceFormLaws
pub mod NormalFormLaws
pub mod LoosePartLaws
pub mod GivenLaws
pub mod ByteLaws
pub mod LooseFormLaws
pub mod LimitLaws
pub mod NetworkFormLaws
pub mod NetworkCallLaws
pub mod WrittenLaws
pub mod BlockFormLaws
pub mod SpecimenLaws
pub mod Claims
