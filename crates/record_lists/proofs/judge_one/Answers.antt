-- `record_lists::judge_one` meets its contract. Assumes nothing.
use mathlib.Core.Path.{sym, ap, ◌∙◌}
use Rattle.notation.proofs.OptionLaws.{passed_on}
use Rattle.address.specs.Answers.{block_answer}
use Rattle.record_lists.proofs.RecordLaws.{judged_good, judged_bad}
use Rattle.record_lists.proofs.judge_one.Goals as goal

pub returns : goal.returns
returns c =
    judged_good _ c.requires c.in_ok-block.block (sym (ap block_answer c.in_ok-block.was) ∙ c.read_record.ensures) _ c.number.ensures

pub returns-in_err-block : goal.returns-in_err-block
returns-in_err-block c =
    rw (passed_on c.from_residual.ensures.1)
    (judged_bad _ c.requires c.in_err-block.field-0.0 (sym (ap block_answer c.in_err-block.was) ∙ c.read_record.ensures))
