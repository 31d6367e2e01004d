-- `sheet_lines::whole_number` meets its contract. Assumes nothing.
use mathlib.Core.Path.{sym, ◌∙◌}
use native.Mathlib.Omega.{arith}
use Rattle.digits.specs.Numerals.{bounded_number}
use Rattle.digits.proofs.FirstPieceLaws.{bounded_reads, whole_nothing, whole_short, whole_number}
use Rattle.sheet_lines.proofs.FieldLaws.{number_zero, number_rest}
use Rattle.sheet_lines.proofs.whole_number.Goals as goal

pub returns-then-leading_zero : goal.returns-then-leading_zero
returns-then-leading_zero c =
    let a = c.args in
    rw (number_zero a.most a.text.now (sym c.leading_zero.ensures ∙ c.if-leading_zero.true))

pub returns-in_err-value : goal.returns-in_err-value
returns-in_err-value c =
    let a = c.args in
    let s = number_rest a.most a.text.now (sym c.leading_zero.ensures ∙ c.if-leading_zero.false) in
    rw (c.from_residual.ensures, s, whole_nothing 10 (bounded_number 10 a.most) (bounded_reads 10 a.most) a.text.now c.in_err-value.ensures)

pub returns-then-count-text : goal.returns-then-count-text
returns-then-count-text c =
    let a = c.args in
    let s = number_rest a.most a.text.now (sym c.leading_zero.ensures ∙ c.if-leading_zero.false) in
    rw (s, whole_short 10 (bounded_number 10 a.most) (bounded_reads 10 a.most) a.text.now _ _ c.in_ok-value.ensures (omega arith))

pub returns : goal.returns
returns c =
    let a = c.args in
    let s = number_rest a.most a.text.now (sym c.leading_zero.ensures ∙ c.if-leading_zero.false) in
    let w = whole_number 10 (bounded_number 10 a.most) (bounded_reads 10 a.most) a.text.now _ _ c.in_ok-value.ensures (omega arith) in
    rw (s, w.0, ← w.1)
