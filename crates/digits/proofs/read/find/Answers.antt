use native.Mathlib.Omega.{arith}
use Rattle.notation.proofs.IndexLaws.{index_found, index_more, index_end}
use Rattle.digits.proofs.read.find.Goals as goal

pub returns-then-byte-separator : goal.returns-then-byte-separator
returns-then-byte-separator c =
    let a = c.args in
    omega (arith, index_found a.separator a.text.now c.loop-i.i (omega arith) c.if-byte-separator.true)

pub loop-i-preserved : goal.loop-i-preserved
loop-i-preserved c =
    let a = c.args in
    omega (arith, index_more a.separator a.text.now c.loop-i.i (omega arith) c.if-byte-separator.false)

pub returns : goal.returns
returns c =
    let a = c.args in
    omega (arith, index_end a.separator a.text.now c.loop-i.i (omega arith))
