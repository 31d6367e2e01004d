-- `nibharrow::nibharrow_gather` meets its contract. Assumes nothing.
use mathlib.Core.Path.{◌∙◌}
use Rattle.list_answers.specs.ListAnswers.{gathered_list}
use Rattle.nibharrow.specs.Interface.{gather_into}
use Rattle.nibharrow.proofs.InterfaceLaws.{both, records_cut}
use Rattle.nibharrow.proofs.nibharrow_gather.Goals as goal

pub returns : goal.returns
unfolding gather_into
returns c =
    both (c.from.ensures ∙ c.gather.ensures.0) c.gather.ensures.1
    ∙ records_cut gathered_list _ _ _ _ c.as_byte.ensures
