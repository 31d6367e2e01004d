-- `records::write_record` meets its contract. Assumes nothing.
use mathlib.Core.Path.{◌≡◌, sym, ap, ◌∙◌}
use Rattle.notation.proofs.OptionLaws.{passed_on}
use Rattle.address.specs.Answers.{check_number}
use Rattle.address.specs.Blocks.{block_refusal}
use Rattle.address.proofs.AnswerLaws.{write_none, write_other}
use Rattle.records.proofs.RecordLaws.{put_short, put_fits}
use Rattle.records.proofs.write_record.Goals.{In_ok-check}
use Rattle.records.proofs.write_record.Goals as goal

-- the block keeps both rules
valid : (v : In_ok-check) → block_refusal v.args.block ≡ 0
valid v = sym v.check.ensures ∙ ap check_number v.in_ok-check.was

pub returns-then-out-size : goal.returns-then-out-size
returns-then-out-size c =
    write_none (block_refusal c.args.block) _ _ (valid (goal.at.returns-then-out-size c).In_ok-check) (put_short c.args.block c.args.out.now (rw (← c.record_size-size.ensures) c.if-out-size.true))

pub returns-in_err-check : goal.returns-in_err-check
returns-in_err-check c =
    rw (passed_on c.from_residual.ensures.1)
    (write_other (block_refusal c.args.block) _ _ c.in_err-check.field-0.0 (sym (ap check_number c.in_err-check.was) ∙ c.check.ensures))

pub returns : goal.returns
returns c =
    write_none (block_refusal c.args.block) _ _ (valid (goal.at.returns c).In_ok-check)
    (put_fits c.args.block c.args.out.now _ c.record_size-size.ensures c.if-out-size.false _ c.fill_record.ensures)
