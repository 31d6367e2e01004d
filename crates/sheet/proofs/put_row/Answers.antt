-- `sheet::put_row` meets its contract. Assumes nothing.
use mathlib.Core.Path.{sym, ◌∙◌}
use Rattle.output.proofs.PlacingLaws.{puts_none}
use Rattle.sheet.proofs.PutLaws.{line_wanted, line_other}
use Rattle.sheet.proofs.put_row.Goals as goal

pub returns-then-family : goal.returns-then-family
returns-then-family c =
    let a = c.args in
    rw (line_wanted a.family a.row (sym c.family.ensures ∙ c.if-family.true)) c.put_line.ensures

pub returns : goal.returns
returns c =
    let a = c.args in
    rw (line_other a.family a.row (λ e. c.if-family.false (c.family.ensures ∙ e))) (puts_none _ _)
