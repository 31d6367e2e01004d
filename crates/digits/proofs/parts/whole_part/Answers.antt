-- `digits::parts::whole_part` meets its contract. Assumes nothing.
use native.Mathlib.Omega.{arith}
use Rattle.digits.specs.Numerals.{part_of}
use Rattle.digits.proofs.FirstPieceLaws.{part_reads, whole_nothing, whole_short, whole_number}
use Rattle.digits.proofs.parts.whole_part.Goals as goal

pub returns-in_err-value : goal.returns-in_err-value
returns-in_err-value c =
    let a = c.args in
    rw (c.from_residual.ensures, whole_nothing 10 (part_of a.most) (part_reads a.most) a.text.now c.in_err-value.ensures)

pub returns-then-count-text : goal.returns-then-count-text
returns-then-count-text c =
    let a = c.args in
    rw (whole_short 10 (part_of a.most) (part_reads a.most) a.text.now _ _ c.in_ok-value.ensures (omega arith))

pub returns : goal.returns
returns c =
    let a = c.args in
    let w = whole_number 10 (part_of a.most) (part_reads a.most) a.text.now _ _ c.in_ok-value.ensures (omega arith) in
    rw (w.0, ← w.1)
