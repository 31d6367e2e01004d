-- `c_answers::as_block_read` meets its contract. Assumes nothing.
use mathlib.Core.Path.{sym, ap, ◌∙◌}
use Rattle.address.specs.Answers.{writing_answer}
use Rattle.address.proofs.AnswerLaws.{nonzero}
use Rattle.c_answers.specs.CAnswers.{besides}
use Rattle.c_answers.proofs.as_block_read.Goals as goal

pub returns-in-Ok : goal.returns-in-Ok
returns-in-Ok c = ap (λ w. besides c.args.length (writing_answer w)) (sym c.in-Ok.is)

pub returns-in-Err : goal.returns-in-Err
returns-in-Err c = (λ i. record { number = c.from.ensures i; fields = (0, 0) }) ∙ rw (c.in-Err.is, nonzero c.in-Err.e)
