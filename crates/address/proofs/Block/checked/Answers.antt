-- `address::Block::checked` meets its contract. Assumes nothing.
use mathlib.Core.Path.{sym, ap, ◌∙◌}
use Rattle.std.proofs.lemmas.Result.{err_from_is_err_and}
use Rattle.address.specs.Answers.{check_number}
use Rattle.address.proofs.BlockLaws.{read_valid, read_refused}
use Rattle.address.proofs.Block.checked.Goals as goal

pub returns : goal.returns
returns c = read_valid _ (sym c.check.ensures ∙ ap check_number c.in_ok-check.was)

pub returns-in_err-check : goal.returns-in_err-check
returns-in_err-check c =
    let passed = err_from_is_err_and c.from_residual.result c.from_residual.ensures.1 in
    rw (passed.1, passed.2) (read_refused _ c.in_err-check.field-0.0 (sym (ap check_number c.in_err-check.was) ∙ c.check.ensures))
