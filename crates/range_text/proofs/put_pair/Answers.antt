-- `range_text::put_pair` meets its contract. Assumes nothing.
use mathlib.Core.Path.{sym, ap, ◌∙◌}
use Rattle.address.specs.Answers.{reading_answer}
use Rattle.range_text.proofs.RangeTextLaws.{first_refused}
use Rattle.range_text.proofs.put_pair.Goals as goal

pub returns-in-Ok : goal.returns-in-Ok
returns-in-Ok c =
    rw (← c.read_address.ensures, c.in-Ok.is) c.put_second.ensures

pub returns-in-Err : goal.returns-in-Err
returns-in-Err c =
    rw (← first_refused _ _ c.in-Err.e (ap reading_answer (sym c.in-Err.is) ∙ c.read_address.ensures)) c.put_refused.ensures
