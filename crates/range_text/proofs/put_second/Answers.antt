-- `range_text::put_second` meets its contract. Assumes nothing.
use mathlib.Core.Path.{sym, ap, ◌∙◌}
use Rattle.address.specs.Answers.{reading_answer}
use Rattle.range_text.proofs.RangeTextLaws.{both_read, second_refused}
use Rattle.range_text.proofs.put_second.Goals as goal

pub returns-in-Ok : goal.returns-in-Ok
returns-in-Ok c =
    rw (← both_read _ _ _ (ap reading_answer (sym c.in-Ok.is) ∙ c.read_address.ensures)) c.put_range.ensures

pub returns-in-Err : goal.returns-in-Err
returns-in-Err c =
    rw (← second_refused _ _ c.in-Err.e (ap reading_answer (sym c.in-Err.is) ∙ c.read_address.ensures)) c.put_refused.ensures
