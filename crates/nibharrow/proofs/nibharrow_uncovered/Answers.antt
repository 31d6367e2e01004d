-- `nibharrow::nibharrow_uncovered` meets its contract. Assumes nothing.
use mathlib.Core.Path.{◌∙◌}
use Rattle.list_answers.specs.ListAnswers.{uncovered_list}
use Rattle.nibharrow.specs.Interface.{uncovered_into}
use Rattle.nibharrow.proofs.InterfaceLaws.{both, records_cut}
use Rattle.nibharrow.proofs.nibharrow_uncovered.Goals as goal

pub returns : goal.returns
unfolding uncovered_into
returns c =
    both (c.from.ensures ∙ c.uncovered.ensures.0) c.uncovered.ensures.1
    ∙ records_cut uncovered_list _ _ _ _ c.as_byte.ensures
