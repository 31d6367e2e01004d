-- `nibharrow::nibharrow_read_block` meets its contract. Assumes nothing.
use mathlib.Core.Path.{refl, sym, ap, ◌∙◌}
use Rattle.address.specs.Answers.{no_block, block_answer}
use Rattle.c_answers.specs.CAnswers.{besides}
use Rattle.nibharrow.specs.Interface.{block_into}
use Rattle.nibharrow.proofs.InterfaceLaws.{both, when_given_lem, when_refused, refused_besides}
use Rattle.nibharrow.proofs.nibharrow_read_block.Goals as goal

pub returns-in-Ok : goal.returns-in-Ok
unfolding block_into
returns-in-Ok c =
    both (c.as_block_read.ensures ∙ ap (besides _) c.write_octets.ensures.0) c.write_octets.ensures.1
    ∙ when_given_lem _ _ _ c.in-Ok.block (ap block_answer (sym c.in-Ok.is) ∙ c.read_block.ensures)

pub returns-in-Err : goal.returns-in-Err
unfolding block_into
returns-in-Err c =
    both (c.as_block_read-in-Err.ensures ∙ refused_besides 0 c.in-Err.e) refl
    ∙ when_refused _ _ _ no_block c.in-Err.e (ap block_answer (sym c.in-Err.is) ∙ c.read_block.ensures)
