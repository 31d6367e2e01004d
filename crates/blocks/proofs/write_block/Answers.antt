-- `blocks::write_block` meets its contract. Assumes nothing.
use mathlib.Core.Path.{◌≡◌, sym, ap, ◌∙◌}
use native.Mathlib.Omega.{arith}
use lib.ListN.{length, take}
use Rattle.notation.proofs.OptionLaws.{passed_on}
use Rattle.address.specs.Answers.{check_number}
use Rattle.address.specs.Blocks.{block_refusal}
use Rattle.address.proofs.AnswerLaws.{write_none, write_other}
use Rattle.output.proofs.PlacingLaws.{puts_whole}
use Rattle.blocks.specs.BlockText.{block_text}
use Rattle.blocks.proofs.BlockTextLaws.{text_most}
use Rattle.blocks.proofs.write_block.Goals.{After-put_block-n}
use Rattle.blocks.proofs.write_block.Goals as goal

-- the text has room in the array
whole : (c : After-put_block-n)
    → (c.put_block-n.result ≡ length (block_text c.args.block))
    × (take c.put_block-n.result c.put_block-n.new.text ≡ block_text c.args.block)
whole c = puts_whole c.put_block-n.ensures (omega (arith, text_most c.args.block))

pub slice_bounds-store-end : goal.slice_bounds-store-end
slice_bounds-store-end c = let w = whole (goal.at.slice_bounds-store-end c).After-put_block-n in w.0 ∙ ap length (sym w.1)

pub returns-in_err-check : goal.returns-in_err-check
returns-in_err-check c =
    rw (passed_on c.from_residual.ensures.1)
    (write_other (block_refusal c.args.block) _ _ c.in_err-check.field-0.0 (sym (ap check_number c.in_err-check.was) ∙ c.check.ensures))

pub returns : goal.returns
returns c =
    rw (← (whole (goal.at.returns c).After-put_block-n).1) (write_none (block_refusal c.args.block) _ _ (sym c.check.ensures ∙ ap check_number c.in_ok-check.was) c.store.ensures)
