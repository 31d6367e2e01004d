-- `blocks::read_block` meets its contract. Assumes nothing.
use mathlib.Core.Path.{sym, ap, ◌∙◌}
use borrow.Author.Rules.{rules}
use lib.Seq.{length-take-le}
use Rattle.notation.proofs.OptionLaws.{passed_on, err_says}
use Rattle.address.specs.Answers.{reading_answer}
use Rattle.blocks.proofs.BlockTextLaws.{answer_long, no_slash, no_address_lem, no_length, length_large, block_checked}
use Rattle.blocks.proofs.read_block.Goals as goal

pub returns-then-text-gt64 : goal.returns-then-text-gt64
returns-then-text-gt64 c = answer_long _ c.if-text-gt64.true

pub returns-then-text-slash : goal.returns-then-text-slash
returns-then-text-slash c = no_slash _ _ c.find-slash.ensures c.if-text-gt64.false c.if-text-slash.true

pub slice_bounds-read_address-end : goal.slice_bounds-read_address-end
slice_bounds-read_address-end c = sym (length-take-le _ _ (search rules))

pub returns-in_default : goal.returns-in_default
returns-in_default c =
    no_address_lem _ _ c.find-slash.ensures c.if-text-gt64.false c.if-text-slash.false c.in_default.field-0 (ap reading_answer (sym c.in_default.is) ∙ c.read_address.ensures)

pub returns-in_err-length : goal.returns-in_err-length
returns-in_err-length c =
    rw (passed_on c.from_residual.ensures.1, err_says _ c.in_err-length.ensures.value)
    (no_length _ _ c.find-slash.ensures c.if-text-gt64.false c.if-text-slash.false _ (sym c.in_err-length.ensures.ok_part ∙ c.whole_part.ensures))

pub returns-then-length-gt128 : goal.returns-then-length-gt128
returns-then-length-gt128 c =
    length_large _ _ c.find-slash.ensures c.if-text-gt64.false c.if-text-slash.false _ (ap reading_answer (sym c.in-Ok.is) ∙ c.read_address.ensures) _ _ _ (sym c.in_ok-length.ensures.ok_part ∙ c.whole_part.ensures) c.if-length-gt128.true

pub returns : goal.returns
returns c =
    block_checked _ _ c.find-slash.ensures c.if-text-gt64.false c.if-text-slash.false _ (ap reading_answer (sym c.in-Ok.is) ∙ c.read_address.ensures) _ _ _ (sym c.in_ok-length.ensures.ok_part ∙ c.whole_part.ensures) c.checked.ensures
