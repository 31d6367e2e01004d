-- `Answerer::put_reply` meets its contract. Assumes nothing.
use mathlib.Core.Path.{sym, ap, ◌∙◌}
use Rattle.address.specs.Answers.{writing_answer}
use Rattle.sheet_main.proofs.ReplyLaws.{reply_written, reply_refused}
use Rattle.sheet_main.proofs.Answerer.put_reply.Goals as goal

pub returns-in-Ok : goal.returns-in-Ok
returns-in-Ok c =
    let a = c.args in
    reply_written a.self.now.options.sorted a.sheet.now a.out.now c.requires.1 a.self.now.options.explain a.name.now _ _ c.in-Ok.written (ap writing_answer (sym c.in-Ok.is) ∙ c.respell.ensures.0) c.respell.ensures.1

pub returns-in-Err : goal.returns-in-Err
returns-in-Err c =
    let a = c.args in
    reply_refused a.self.now.options.sorted a.sheet.now a.out.now c.requires.1 a.self.now.options.explain a.name.now _ _ c.in-Err.refusal (ap writing_answer (sym c.in-Err.is) ∙ c.respell.ensures.0) _ c.from-number.ensures c.requires.0 c.requires.2 c.put_refused-noted.ensures
