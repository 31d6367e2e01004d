-- `sheet_notes::fault_line` meets its contract. Assumes nothing.
use mathlib.Core.Path.{sym, ◌∙◌}
use Rattle.sheet_notes.proofs.LineLaws.{fault_1, fault_10, fault_2, fault_other}
use Rattle.sheet_notes.proofs.fault_line.Goals as goal

pub returns-then-number-eq1 : goal.returns-then-number-eq1
returns-then-number-eq1 c = c.excess_line.ensures ∙ sym (fault_1 _ c.if-number-eq1.true)

pub returns-then-number-eq10 : goal.returns-then-number-eq10
returns-then-number-eq10 c = sym (fault_10 _ c.if-number-eq1.false c.if-number-eq10.true)

pub returns-then-number-eq2 : goal.returns-then-number-eq2
returns-then-number-eq2 c = c.malformed_line.ensures ∙ sym (fault_2 _ c.if-number-eq1.false c.if-number-eq10.false c.if-number-eq2.true)

pub returns : goal.returns
returns c = sym (fault_other _ c.if-number-eq1.false c.if-number-eq10.false c.if-number-eq2.false)
